-- The stage of given lists.
use Rattle.std.specs.Prelude.{ℕ, ◌-◌, List, ℤ}
use Rattle.lift_core.specs.Systems.{ToolSystem}
use Rattle.lift_core.specs.Stages.{pairs_within}
use Rattle.stage_store.specs.Stage.{StageValue}

-- stage k at norm d with these lists; of the used pairs, those that the listed rows have up to norm
-- d are its own, and the others are of the stages before
abbrev pub stage_of : ToolSystem → ℕ → ℕ → ℕ → List (List ℤ) → List (List ℤ) → StageValue
stage_of S k d used listed waiting = record {
  system = S;
  number = k;
  norm = d;
  before = used - pairs_within listed d;
  listed = listed;
  waiting = waiting;
}
