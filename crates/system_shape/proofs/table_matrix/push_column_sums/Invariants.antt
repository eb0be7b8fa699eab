use Rattle.std.proofs.Common.{◌≡◌, ◌++◌}
use Rattle.std.specs.List.{flat_map, range_with_len}
use Rattle.system_shape.specs.Tables.{column_sum}
use Rattle.system_shape.proofs.table_matrix.push_column_sums.Given as goal

abbrev pub invariant-loop-j : goal.invariant-loop-j
invariant-loop-j l = l.cells.items ≡ l.fn.cells.items ++ flat_map (column_sum l.fn.k) (range_with_len 0 l.j)
