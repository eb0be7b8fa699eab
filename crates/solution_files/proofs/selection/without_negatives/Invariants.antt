-- The rows so far, and those that are left, are all that stay.
use Rattle.std.proofs.Common.{◌≡◌, ◌≤◌, ◌++◌, drop, length}
use Rattle.std.specs.List.{filter}
use Rattle.lift_core.specs.Inside.OrderedRows.{rows_behind}
use Rattle.solution_files.specs.Steps.{without_negatives}
use Rattle.solution_files.proofs.SelectedRows.{stays}
use Rattle.solution_files.proofs.selection.without_negatives.Given as goal

abbrev pub invariant-loop-row : goal.invariant-loop-row
invariant-loop-row l = record {
  so_far : rows_behind l.kept.items ++ filter (stays (rows_behind l.rows)) (rows_behind (drop l.row-index l.rows)) ≡ without_negatives (rows_behind l.rows);
  count : length l.kept.items ≤ l.row-index;
}
