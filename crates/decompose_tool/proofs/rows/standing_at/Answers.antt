-- The parts of a row are found by its place in three lists.
use Rattle.std.proofs.Common.{◌≡◌, length, get_or, pos, subst, rules, SFits, w64, to_z-of_z, arith}
use Rattle.std.specs.Prelude.{ℕ, ◌*ℤ◌}
use mir.Syntax.{w128}
use Rattle.lift_core.proofs.Cells.{length-cut_rows}
use Rattle.mat_files.specs.declared.relations.Rel.TheVariants.{Equal}
use Rattle.system_shape.specs.Shape.{given_relations, given_rights}
use Rattle.system_files.specs.Kernel.{rows_in}
use Rattle.decompose_tool.proofs.UserRows.{rows_count, standing_is}
use Rattle.decompose_tool.proofs.rows.standing_at.Goals as goal

pub returns-clause-inside : goal.returns-clause-inside
returns-clause-inside c =
    let mat = c.args.shaped.now.input.mat in
    let same : c.height-m.result ≡ mat.rows = c.height-m.ensures in
    let relations : length (given_relations mat.rows c.args.shaped.now.input.rel) ≡ mat.rows = subst (λ (k : ℕ). length (given_relations k c.args.shaped.now.input.rel) ≡ k) same c.relation.ensures.count in
    let rights : length (given_rights mat.rows c.args.shaped.now.input.rhs) ≡ mat.rows = subst (λ (k : ℕ). length (given_rights k c.args.shaped.now.input.rhs) ≡ k) same c.right_side-right.ensures.count in
    omega (arith, c.requires.inside, rows_count (rows_in mat) (given_relations mat.rows c.args.shaped.now.input.rel) (given_rights mat.rows c.args.shaped.now.input.rhs) mat.rows (length-cut_rows mat.rows mat.cols mat.cells) relations rights)

pub returns-clause-stands : goal.returns-clause-stands
returns-clause-stands c =
    let mat = c.args.shaped.now.input.mat in
    let rel = c.args.shaped.now.input.rel in
    let rhs = c.args.shaped.now.input.rhs in
    let i = c.args.i in
    let same : c.height-m.result ≡ mat.rows = c.height-m.ensures in
    let relations : length (given_relations mat.rows rel) ≡ mat.rows = subst (λ (k : ℕ). length (given_relations k rel) ≡ k) same c.relation.ensures.count in
    let rights : length (given_rights mat.rows rhs) ≡ mat.rows = subst (λ (k : ℕ). length (given_rights k rhs) ≡ k) same c.right_side-right.ensures.count in
    let relation : c.relation.result ≡ get_or (given_relations mat.rows rel) i Equal = subst (λ (k : ℕ). c.relation.result ≡ get_or (given_relations k rel) i Equal) same c.relation.ensures.relation in
    let right : c.right_side-right.result ≡ get_or (given_rights mat.rows rhs) i (pos 0) = subst (λ (k : ℕ). c.right_side-right.result ≡ get_or (given_rights k rhs) i (pos 0)) same c.right_side-right.ensures.right in
    let fp : SFits w128 c.product.result = search rules in
    let fm : SFits w64 c.multiple.result = search rules in
    let fr : SFits w64 c.right_side-right.result = search rules in
    let ft : SFits w64 c.args.times = c.ranges.times in
    let value : c.multiple.result ≡ c.right_side-right.result *ℤ c.args.times = simp to_z-of_z at c.multiple.ensures.value in
    simp to_z-of_z (standing_is (rows_in mat) (given_relations mat.rows rel) (given_rights mat.rows rhs) mat.rows i c.args.times c.args.x.now c.relation.result c.product.result c.multiple.result
    c.right_side-right.result c.row.result.now (length-cut_rows mat.rows mat.cols mat.cells) relations rights c.requires.inside relation c.row.ensures.row c.product.ensures.product right value c.product.ensures.small)
