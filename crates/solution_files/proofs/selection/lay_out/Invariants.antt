use Rattle.std.proofs.Common.{◌≡◌, ◌++◌, drop}
use Rattle.std.specs.List.{flat_map}
use Rattle.lift_core.specs.Inside.OrderedRows.{rows_behind}
use Rattle.solution_files.proofs.selection.lay_out.Given as goal

abbrev pub invariant-loop-row : goal.invariant-loop-row
invariant-loop-row l = l.cells.items ++ flat_map (λ x. x) (rows_behind (drop l.row-index l.rows)) ≡ flat_map (λ x. x) (rows_behind l.rows)
