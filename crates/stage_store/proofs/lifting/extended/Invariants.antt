-- The first i solutions stand extended, and none of them has a product that leaves the range.
use Rattle.std.proofs.Common.{◌≡◌, ◌+◌, ◌≤◌, take, length, None}
use Rattle.std.specs.Prelude.{map}
use Rattle.std.specs.List.{find}
use Rattle.lift_core.specs.ToolSystems.{width}
use Rattle.lift_core.specs.Systems.{row}
use Rattle.lift_core.specs.Stages.{extend}
use Rattle.lift_core.specs.Ends.{leaves_range}
use Rattle.stage_store.proofs.lifting.extended.Given as goal

abbrev pub invariant-loop-i : goal.invariant-loop-i
invariant-loop-i l = record {
  width : l.waiting.width ≡ width l.system.equations + 1;
  room : length l.solutions.rows ≤ l.waiting.spare + l.i;
  rows : l.waiting.rows ≡ map (extend (row l.system.equations l.stage)) (take l.i l.solutions.rows);
  fit : find (leaves_range (row l.system.equations l.stage)) (take l.i l.solutions.rows) ≡ None;
}
