-- The slice that is cut out is the row.
use Rattle.std.proofs.Common.{◌≡◌, ◌+◌, ◌-◌, ◌*◌, take, drop, ap, ◌∙◌, arith}
use Rattle.lift_core.proofs.Cells.{row_cut}
use Rattle.system_files.proofs.rows.row.Goals as goal

pub returns-clause-row : goal.returns-clause-row
returns-clause-row c =
    let n = c.grid.inside.cols in
    let start = c.args.i * n in
    let e : start + n - start ≡ n = omega arith in
    row_cut c.args.grid.now.rows c.args.grid.now.cols c.args.i c.args.grid.now.cells c.deref.result.now (take (start + n - start) (drop start c.deref.result.now)) n
    c.requires (c.deref.ensures.value ∙ ap (λ m. m.cells) c.grid.view_is) (ap (λ m. m.cols) c.grid.view_is) (ap (λ w. take w (drop start c.deref.result.now)) e)
