use Rattle.std.proofs.Common.{◌≡◌, ◌+◌, ◌≤◌, take, length}
use Rattle.lift_core.specs.ToolSystems.{width}
use Rattle.stage_tests.proofs.rebuilds.waiting_rows.Given as goal

abbrev pub invariant-loop-i : goal.invariant-loop-i
invariant-loop-i l = record {
  width : l.rows.width ≡ width l.stage.system.equations + 1;
  room : length l.stage.waiting ≤ l.rows.spare + l.i;
  rows : l.rows.rows ≡ take l.i l.stage.waiting;
}
