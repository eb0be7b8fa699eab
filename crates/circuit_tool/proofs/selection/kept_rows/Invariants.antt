-- The rows so far, and those that are left, are all that are kept.
use Rattle.std.proofs.Common.{◌≡◌, ◌≤◌, ◌++◌, drop, length}
use Rattle.std.specs.List.{filter}
use Rattle.lift_core.specs.Inside.OrderedRows.{rows_behind}
use Rattle.solution_files.specs.Steps.{AreRows}
use Rattle.system_files.specs.Kernel.{rows_in}
use Rattle.circuit_tool.specs.Inside.Supports.{is_kept}
use Rattle.circuit_tool.proofs.selection.kept_rows.Given as goal

abbrev pub invariant-loop-i : goal.invariant-loop-i
invariant-loop-i l = record {
  rows : rows_behind l.rows.items ++ filter (is_kept l.least) (drop l.i (rows_in l.set)) ≡ filter (is_kept l.least) (rows_in l.set);
  shape : AreRows l.set.cols (rows_behind l.rows.items);
  count : length l.rows.items ≤ l.i;
}
