-- Which norms a run closes on its way, and what a Keep has been told of them.
use Rattle.std.specs.Prelude.{◌≡◌, ◌⊎◌, ℕ, ◌≤◌, List, [], ◌∷◌, length, Option, Result, Ok, Err, IfSome, MatchOption}
use Rattle.std.specs.Option.{option_map}
use Rattle.std.specs.List.{fold}
use Rattle.outside.specs.Causes.{Rose}
use Rattle.lift_core.specs.Stages.{IsNextNorm, HasNoNextNorm}
use Rattle.lift_core.specs.Ends.{End, Limits as Bounds}
use Rattle.int_vector.specs.Vectors.{largest}
use Rattle.lift_core.specs.Walks.{used_up_to}
use Rattle.stage_store.specs.Stage.{StageValue, used_of}
use Rattle.stage_store.specs.Lifted.{IsLift}
use Rattle.stage_store.specs.Published.{IsPublished}
use Rattle.stage_store.specs.declared.stage.Finish.{Finish}
use Rattle.stage_store.specs.declared.stage.Lifted.{Lifted}
use Rattle.stage_store.specs.declared.stage.Lifted.TheVariants.{Next, Last}
use Rattle.lift_run.specs.declared.ends.RunEnd.{RunEnd}
use Rattle.lift_run.specs.declared.ends.RunEnd.TheVariants.{Failed}
use Rattle.lift_run.specs.Counts.{closed_norms}
use Rattle.lift_run.specs.Runs.{StageWalks, end_of}

-- e is the next norm, it is in range, and its pairs are within the limit
pub record IsAllowed (limits : Bounds) (s : StageValue) (e : ℕ) : Type 0 where
  pub next : IsNextNorm s.listed s.waiting s.norm e
  pub small : e ≤ largest
  pub fits : used_up_to (used_of s) s.listed s.norm e ≤ limits.pairs

-- t is the stage after the next norm of s is closed, within the limits
pub record IsClosing (limits : Bounds) (s t : StageValue) : Type 0 where
  pub allowed : IsAllowed limits s t.norm
  pub published : IsPublished s t.norm t
  pub room : length t.listed ≤ limits.rows

-- the walk leads from one stage to another, and these are its stages after each norm that it closes, in order
pub data Leads (limits : Bounds) : StageValue → List StageValue → StageValue → Type 0 where
  leads_nowhere : {s : StageValue} → Leads limits s [] s
  leads_on :
      {s t u : StageValue} {rest : List StageValue}
      → IsClosing limits s t
      → Leads limits t rest u
      → Leads limits s (t ∷ rest) u
  leads_up :
      {s t u : StageValue} {closed : List StageValue}
      → HasNoNextNorm s.listed s.waiting s.norm
      → IsLift s (Ok (Next t))
      → Leads limits t closed u
      → Leads limits s closed u

-- the walk of the stage's lists comes to this end and closes no norm
abbrev pub EndsHere : Bounds → StageValue → End → Type 0
EndsHere limits s end =
    (walk : StageWalks limits s end) × (closed_norms s.system.equations limits walk ≡ 0)

-- ---- what a Keep was told. `after` is the state that follows a kept stage, and `torn` says which may follow a refused one
-- the walk comes to this end, and the Keep was told of each norm that it closes, in order, each once
pub record ComesTo {X : Type 0} (after : X → StageValue → X) (limits : Bounds)
    (s : StageValue) (end : End) (old new : Option X)
    : Type 0 where
  pub closed : List StageValue
  pub final : StageValue
  pub leads : Leads limits s closed final
  pub ends : EndsHere limits final end
  pub told : new ≡ option_map (λ x. fold after x closed) old

-- the state is that after these stages, or one that a refused further stage may leave
abbrev pub MayStand :
    {X : Type 0} → (X → StageValue → X) → (X → StageValue → X → Type 0)
    → Bounds → StageValue → List StageValue → Option X → Option X → Type 0
MayStand after torn limits final closed old new =
    (new ≡ option_map (λ x. fold after x closed) old)
    ⊎ ((t : StageValue) × IsClosing limits final t
    × IfSome old (λ x. IfSome new (torn (fold after x closed) t)))

-- the walk breaks off: the Keep was told of the first norms that it closes, in order, each once, and a further one may have been refused
pub record BreaksOff
    {X : Type 0} (after : X → StageValue → X) (torn : X → StageValue → X → Type 0)
    (limits : Bounds) (s : StageValue) (old new : Option X) : Type 0 where
  pub closed : List StageValue
  pub final : StageValue
  pub leads : Leads limits s closed final
  pub stands : MayStand after torn limits final closed old new

-- by the end that is named; running out of memory and a failed Keep name none
abbrev pub TellsTo :
    {X : Type 0} → (X → StageValue → X) → (X → StageValue → X → Type 0)
    → Bounds → StageValue → Option End → Option X → Option X → Type 0
TellsTo after torn limits s named old new =
    MatchOption named (BreaksOff after torn limits s old new)
    (λ end. ComesTo after limits s end old new)

-- what the Keep was told at an answer of a run; nothing, where the finish was handed in
abbrev pub TellsKeep :
    {X : Type 0} → (X → StageValue → X) → (X → StageValue → X → Type 0)
    → Bounds → Lifted → Result Finish RunEnd → Option X → Option X → Type 0
TellsKeep after torn limits (Next s) answer old new =
    TellsTo after torn limits s (end_of answer) old new
TellsKeep after torn limits (Last f) answer old new = new ≡ old

-- the Keep's count has not fallen, and `Failed` is answered only where it rose
pub record HasKeepCause {T : Type 0} (before now : ℕ) (answer : Result T RunEnd) : Type 0 where
  pub later : before ≤ now
  pub failed : answer ≡ Err Failed → Rose before now
