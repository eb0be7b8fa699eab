-- The walk went on over the rows so far.
use Rattle.std.proofs.Common.{◌≤◌, ◌+◌, ◌*◌, take}
use Rattle.lift_core.specs.ToolSystems.{width}
use Rattle.system_files.specs.Kernel.{rows_in}
use Rattle.decompose_tool.specs.Inside.Steps.{user_of, HasRest, GoesOverRows}
use Rattle.decompose_tool.proofs.walking.take_rows.Given as goal

abbrev pub invariant-loop-i : goal.invariant-loop-i
invariant-loop-i l = record {
  goes : GoesOverRows l.shaped.input.mat.cols l.shaped.system.tool (user_of l.shaped) l.times (take l.i (rows_in l.grid)) l.initial.walk l.walk;
  open_is : HasRest (width l.shaped.system.equations) l.walk;
  few : l.walk.terms ≤ l.initial.walk.terms + 2 * l.i;
}
