-- Where there is no fault, each file fits.
use Rattle.std.proofs.Common.{◌≤◌, ap, arith}
use Rattle.system_shape.proofs.Building.{fitting_from}
use Rattle.system_shape.proofs.first_fault.shape_fault.Goals as goal

pub returns-clause-fitting : goal.returns-clause-fitting
returns-clause-fitting c =
    let rows : c.mat.inside.rows ≤ 64 = omega (arith, c.requires.rows, ap (λ m. m.rows) c.mat.view_is) in
    let cols : c.mat.inside.cols ≤ 64 = omega (arith, c.requires.cols, ap (λ m. m.cols) c.mat.view_is) in
    fitting_from c.args.tool c.args.input.now _ c.cap_fault.result c.mat.view_is c.mat.invariant rows cols c.in_default.ensures.accepted c.in_default-relation_fault.ensures.accepted c.in_default-right_fault.ensures.accepted c.cap_fault.ensures.accepted
