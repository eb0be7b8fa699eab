-- The cells of all rows are a matrix in range.
use Rattle.std.proofs.Common.{length, sym}
use Rattle.std.proofs.lemmas.List.{length-map}
use Rattle.lift_core.specs.Inside.OrderedRows.{rows_behind}
use Rattle.solution_files.proofs.SelectedRows.{rows_matrix, all_laid}
use Rattle.solution_files.proofs.selection.lay_out.Goals as goal

pub invariant_of-result : goal.invariant_of-result
invariant_of-result c =
    rows_matrix c.args.columns (rows_behind c.args.rows.now) (length c.args.rows.now) c.loop-row.cells.items c.requires.some c.requires.shape
    (sym (length-map c.args.rows.now (λ r. r.now)))
    (all_laid c.args.rows.now c.loop-row.row-index c.loop-row.cells.items c.loop-row-test.false c.loop-row.invariant)
