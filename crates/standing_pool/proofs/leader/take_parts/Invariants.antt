use Rattle.std.proofs.Common.{◌≡◌, ◌+◌}
use Rattle.lift_core.specs.ToolSystems.{width}
use Rattle.standing_pool.specs.Inside.Gathered.{AreParts}
use Rattle.standing_pool.proofs.leader.take_parts.Given as goal

abbrev pub invariant-loop-i : goal.invariant-loop-i
invariant-loop-i l = record {
  width : l.rows.width ≡ width l.stage.system.equations + 1;
  parts : AreParts l.stage l.norm l.workers l.i l.rows.rows;
}
