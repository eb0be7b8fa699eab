-- The rows hold what the numbers from `first` up to those done gain, the open pairs before k are done, and there is a
-- row's room for each number that is left.
use Rattle.std.proofs.Common.{◌≡◌, ℕ, ◌+◌, ◌-◌, ◌≤◌, ◌<◌, length, slice_index_or}
use Rattle.lift_core.specs.ToolSystems.{width}
use Rattle.stage_store.specs.declared.opened.OpenPair.{OpenPair}
use Rattle.stage_store.specs.Numbered.{GainsNumbered}
use Rattle.stage_store.specs.Opened.{open_number}
use Rattle.stage_store.proofs.numbered.take_opened.Given as goal

abbrev pub invariant-loop-k : goal.invariant-loop-k
invariant-loop-k l = record {
  within : l.k ≤ length l.opened.pairs.items;
  from : l.first ≤ l.done;
  to : l.done ≤ l.first + l.count;
  sum : length l.sum ≡ width l.stage.system.equations + 1;
  width : l.rows.width ≡ width l.stage.system.equations + 1;
  kept : length l.fn.rows.rows ≤ length l.rows.rows;
  room : l.count + l.first ≤ l.rows.spare + l.done;
  before : (j : ℕ) (d : OpenPair) → j < l.k → open_number (slice_index_or l.opened.pairs.items j d) < l.done;
  gains : GainsNumbered l.stage l.opened.norm l.first l.done l.fn.rows.rows l.rows.rows;
}

abbrev pub decreases-loop-k : goal.decreases-loop-k
decreases-loop-k l = length l.opened.pairs.items - l.k
