-- Three rows of row sums and k of column sums, each with 3 k entries, are as many cells as the matrix has.
use Rattle.std.proofs.Common.{◌≡◌, ◌+◌, ◌*◌, ◌++◌, ◌∙◌, ap, sym, subst, List, ℤ}
use Rattle.std.specs.List.{flat_map, range_with_len}
use Rattle.mat_files.specs.Grids.{IsMatrix}
use Rattle.system_shape.specs.Tables.{row_sum, column_sum, table_cells}
use Rattle.system_shape.proofs.Counted.{cells_are_matrix}
use Rattle.system_shape.proofs.table_matrix.tables.Goals as goal

pub invariant_of-mat : goal.invariant_of-mat
invariant_of-mat c =
    let is : c.push_column_sums.new.cells.items ≡ table_cells c.args.k =
    c.in_ok-push_column_sums.ensures ∙ ap (λ (l : List ℤ). l ++ flat_map (column_sum c.args.k) (range_with_len 0 c.args.k)) (c.in_ok-push_row_sums.ensures
    ∙ ap (λ (l : List ℤ). l ++ flat_map (row_sum c.args.k) (range_with_len 0 3)) c.new-cells.ensures.items) in
    subst (IsMatrix (3 + c.args.k) (3 * c.args.k)) (sym is) (cells_are_matrix c.args.k c.requires.0)
