-- The rows so far, and those that are left, are all of the kind.
use Rattle.std.proofs.Common.{◌≡◌, ◌≤◌, ◌++◌, drop, length}
use Rattle.solution_files.specs.Outputs.{kind_of}
use Rattle.lift_core.specs.Inside.OrderedRows.{rows_behind}
use Rattle.solution_files.specs.Steps.{projected, AreRows}
use Rattle.solution_files.proofs.selection.rows_of_kind.Given as goal

abbrev pub invariant-loop-place : goal.invariant-loop-place
invariant-loop-place l = record {
  so_far : rows_behind l.rows.items ++ projected l.finish.system.n (kind_of l.kind) (drop l.place l.finish.rows.rows) ≡ projected l.finish.system.n (kind_of l.kind) l.finish.rows.rows;
  shape : AreRows l.finish.system.n (rows_behind l.rows.items);
  count : length l.rows.items ≤ l.place;
}
