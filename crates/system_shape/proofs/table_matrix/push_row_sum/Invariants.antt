use Rattle.std.proofs.Common.{◌≡◌, ◌++◌, ◌/◌, ◌==◌, map}
use Rattle.std.specs.List.{range_with_len}
use Rattle.system_shape.specs.Tables.{mark}
use Rattle.system_shape.proofs.table_matrix.push_row_sum.Given as goal

abbrev pub invariant-loop-c : goal.invariant-loop-c
invariant-loop-c l = l.cells.items ≡ l.fn.cells.items ++ map (λ c. mark (c / l.fn.k == l.fn.i)) (range_with_len 0 l.c)
