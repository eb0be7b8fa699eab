-- The rows hold what the first k numbers of the range gain, and there is a row's room for each that is left.
use Rattle.std.proofs.Common.{◌≡◌, ◌≤◌, ◌+◌, length}
use Rattle.lift_core.specs.ToolSystems.{width}
use Rattle.stage_store.specs.Numbered.{GainsNumbered}
use Rattle.stage_store.proofs.numbered.take_range.Given as goal

abbrev pub invariant-loop-k : goal.invariant-loop-k
invariant-loop-k l = record {
  sum : length l.sum ≡ width l.stage.system.equations + 1;
  width : l.rows.width ≡ width l.stage.system.equations + 1;
  kept : length l.fn.rows.rows ≤ length l.rows.rows;
  room : l.count ≤ l.rows.spare + l.k;
  gains : GainsNumbered l.stage l.norm l.first (l.first + l.k) l.fn.rows.rows l.rows.rows;
}
