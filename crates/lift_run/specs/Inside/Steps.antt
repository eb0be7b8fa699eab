-- What the steps of a run do to the stage in hand and to the state of the Keep.
use Rattle.std.specs.Prelude.{◌≡◌, ℕ, Option, Some, None, List, Result, Ok, Err, IfSome}
use Rattle.std.specs.Option.{option_map}
use Rattle.std.specs.List.{fold}
use Rattle.lift_core.specs.Stages.{HasNoNextNorm}
use Rattle.lift_core.specs.Ends.{finished}
use Rattle.lift_core.specs.Ends.{Limits as Bounds}
use Rattle.stage_store.specs.Stage.{StageValue, IsDefined}
use Rattle.stage_store.specs.declared.stage.Finish.{Finish}
use Rattle.lift_run.specs.declared.ends.RunEnd.{RunEnd}
use Rattle.lift_run.specs.Runs.{end_of_error, IsOfSystem, HasAllSolutions}
use Rattle.lift_run.specs.Keeps.{IsAllowed, IsClosing, Leads, EndsHere, ComesTo, TellsTo}

-- the next norm, none, or an end that is met at this stage
abbrev pub AllowsNext : Bounds → StageValue → Result (Option ℕ) RunEnd → Type 0
AllowsNext limits s (Ok None) = HasNoNextNorm s.listed s.waiting s.norm
AllowsNext limits s (Ok (Some e)) = IsAllowed limits s e
AllowsNext limits s (Err end) = IfSome (end_of_error end) (EndsHere limits s)

-- the norm is closed, or an end is met at the stage as it was
abbrev pub ListsNorm : Bounds → ℕ → StageValue → StageValue → Result (Unit {0}) RunEnd → Type 0
ListsNorm limits e old new (Ok u) =
    IsClosing limits old new × (new.norm ≡ e) × (IsDefined old → IsDefined new)
ListsNorm limits e old new (Err end) = IfSome (end_of_error end) (EndsHere limits old)

-- the run goes on from the new stage, and the Keep was told of each norm that was closed on the way
pub record GoesOn {X : Type 0} (after : X → StageValue → X) (limits : Bounds)
    (old new : StageValue) (before now : Option X)
    : Type 0 where
  pub closed : List StageValue
  pub leads : Leads limits old closed new
  pub told : now ≡ option_map (λ x. fold after x closed) before
  pub defined : IsDefined old → IsDefined new

-- norm e is closed and kept, or the Keep was told of what was closed before it
abbrev pub ClosesNorm :
    {X : Type 0} → (X → StageValue → X) → (X → StageValue → X → Type 0)
    → Bounds → ℕ → StageValue → StageValue → Option X → Option X → Result (Unit {0}) RunEnd → Type 0
ClosesNorm after torn limits e old new before now (Ok u) =
    GoesOn after limits old new before now × (new.norm ≡ e) × (new.number ≡ old.number)
ClosesNorm after torn limits e old new before now (Err end) =
    TellsTo after torn limits old (end_of_error end) before now

-- all norms of the stage are closed and kept
abbrev pub ClosesAll :
    {X : Type 0} → (X → StageValue → X) → (X → StageValue → X → Type 0)
    → Bounds → StageValue → StageValue → Option X → Option X → Result (Unit {0}) RunEnd → Type 0
ClosesAll after torn limits old new before now (Ok u) =
    GoesOn after limits old new before now
    × HasNoNextNorm new.listed new.waiting new.norm
    × (new.number ≡ old.number)
ClosesAll after torn limits old new before now (Err end) =
    TellsTo after torn limits old (end_of_error end) before now

-- the run over the stages from the first on is finished
pub record IsFinished {X : Type 0} (after : X → StageValue → X) (limits : Bounds)
    (first : StageValue) (f : Finish) (before now : Option X)
    : Type 0 where
  pub comes : ComesTo after limits first (finished f.rows.rows f.pairs) before now
  pub system : IsOfSystem first.system f
  pub solutions : IsDefined first → HasAllSolutions f

abbrev pub RunsFrom :
    {X : Type 0} → (X → StageValue → X) → (X → StageValue → X → Type 0)
    → Bounds → StageValue → Option X → Option X → Result Finish RunEnd → Type 0
RunsFrom after torn limits first before now (Ok f) = IsFinished after limits first f before now
RunsFrom after torn limits first before now (Err end) =
    TellsTo after torn limits first (end_of_error end) before now
