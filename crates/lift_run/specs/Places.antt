-- The places of the norms that are closed on the way to an end, and the stages that a Keep was told of there.
use Rattle.std.specs.Prelude.{◌≡◌, ◌⊎◌, ℕ, List, [], ◌∷◌, Option, None, Result}
use Rattle.std.specs.List.{AllZip, AllByRecursion}
use Rattle.lift_core.specs.Systems.{LinearSystem, ToolSystem}
use Rattle.lift_core.specs.Ends.{Limits, End, EndsIn, by_norm_overflow, by_pairs_spent, by_rows_spent, by_closing, by_row_overflow, by_next_stage, by_finish}
use Rattle.stage_store.specs.Stage.{StageValue, IsStage, IsDefined}
use Rattle.stage_store.specs.Lifted.{IsFirst}
use Rattle.stage_store.specs.declared.stage.Finish.{Finish}
use Rattle.stage_store.specs.declared.stage.Lifted.{Lifted}
use Rattle.lift_run.specs.declared.ends.RunEnd.{RunEnd}
use Rattle.lift_run.specs.Runs.{end_of}
use Rattle.lift_run.specs.Keeps.{Leads, EndsHere, TellsKeep}

-- the places that are closed on the way to the end, each a stage and a norm, in order
abbrev pub closed_places : (S : LinearSystem) (limits : Limits) {k d : ℕ} {end : End}
    → EndsIn S limits k d end → List (ℕ × ℕ)
closed_places S limits (by_norm_overflow at next large) = []
closed_places S limits (by_pairs_spent at next small used over) = []
closed_places S limits (by_rows_spent at after next small used fits listed over) = []
closed_places S limits {k} (by_closing {e = e} at after next small used fits listed room rest) =
    (k, e) ∷ closed_places S limits rest
closed_places S limits (by_row_overflow at rows none more is found) = []
closed_places S limits (by_next_stage at rows none more is found rest) = closed_places S limits rest
closed_places S limits (by_finish at rows none last is used) = []

-- the stage stands at the place (k, d) of the system, and its lists are the defined ones
pub record IsStageAt (S : ToolSystem) (place : ℕ × ℕ) (s : StageValue) : Type 0 where
  pub system_is : s.system ≡ S
  pub number_is : s.number ≡ place.0
  pub norm_is : s.norm ≡ place.1
  pub defined : IsDefined s

abbrev pub AreStagesAt : ToolSystem → List (ℕ × ℕ) → List StageValue → Type 0
AreStagesAt S places stages = AllZip (IsStageAt S) places stages

-- from defined lists, the stages that are closed on the way to an end are those of the places that are closed on the way to it
abbrev pub LeadsThroughPlaces : Type 0
LeadsThroughPlaces =
    (limits : Limits) (s final : StageValue) (closed : List StageValue) (end : End)
    → IsStage s
    → IsDefined s
    → Leads limits s closed final
    → EndsHere limits final end
    → (e : EndsIn s.system.equations limits s.number s.norm end)
    × AreStagesAt s.system (closed_places s.system.equations limits e) closed

-- from defined lists, each stage that is closed on the way has the defined ones, also where no end is reached
abbrev pub LeadsThroughDefined : Type 0
LeadsThroughDefined =
    (limits : Limits) (s final : StageValue) (closed : List StageValue)
    → IsStage s
    → IsDefined s
    → Leads limits s closed final
    → AllByRecursion (λ t. IsDefined t × (t.system ≡ s.system)) closed

-- what the Keep was told of a run from the start: that of the run from the first stage, or nothing where memory was refused before it
abbrev pub TellsFromStart :
    {X : Type 0} → (X → StageValue → X) → (X → StageValue → X → Type 0)
    → Limits → ToolSystem → Result Finish RunEnd → Option X → Option X → Type 0
TellsFromStart after torn limits S answer old new =
    ((first : Lifted) × IsFirst S first × TellsKeep after torn limits first answer old new)
    ⊎ ((end_of answer ≡ None) × (new ≡ old))
