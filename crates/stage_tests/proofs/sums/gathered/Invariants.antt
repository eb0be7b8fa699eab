use Rattle.std.proofs.Common.{◌≡◌, ◌+◌, length}
use Rattle.lift_core.specs.ToolSystems.{width}
use Rattle.stage_tests.proofs.sums.gathered.Given as goal

abbrev pub invariant-loop-k : goal.invariant-loop-k
invariant-loop-k l = record {
  sum : length l.sum.items ≡ width l.stage.system.equations + 1;
  width : l.rows.width ≡ width l.stage.system.equations + 1;
}
