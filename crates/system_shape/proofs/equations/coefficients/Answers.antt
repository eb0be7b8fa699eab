-- The slice that is cut out is the row.
use Rattle.std.proofs.Common.{◌≡◌, ◌+◌, ◌-◌, ◌*◌, take, drop, ap, ◌∙◌, arith}
use Rattle.lift_core.proofs.Cells.{row_cut}
use Rattle.system_shape.proofs.equations.coefficients.Goals as goal

pub returns : goal.returns
returns c =
    let n = c.mat.inside.cols in
    let start = c.args.row * n in
    let e : start + n - start ≡ n = omega arith in
    row_cut c.args.mat.now.rows c.args.mat.now.cols c.args.row c.args.mat.now.cells c.deref.result.now (take (start + n - start) (drop start c.deref.result.now)) n
    c.requires (c.deref.ensures.value ∙ ap (λ m. m.cells) c.mat.view_is) (ap (λ m. m.cols) c.mat.view_is) (ap (λ w. take w (drop start c.deref.result.now)) e)
