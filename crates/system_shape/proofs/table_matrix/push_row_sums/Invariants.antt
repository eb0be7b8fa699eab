use Rattle.std.proofs.Common.{◌≡◌, ◌++◌}
use Rattle.std.specs.List.{flat_map, range_with_len}
use Rattle.system_shape.specs.Tables.{row_sum}
use Rattle.system_shape.proofs.table_matrix.push_row_sums.Given as goal

abbrev pub invariant-loop-i : goal.invariant-loop-i
invariant-loop-i l = l.cells.items ≡ l.fn.cells.items ++ flat_map (row_sum l.fn.k) (range_with_len 0 l.i)
