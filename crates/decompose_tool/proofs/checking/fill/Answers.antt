-- Where a difference is out of range, so is the norm of the whole.
use Rattle.std.proofs.Common.{◌≡◌, ◌∙◌, ◌<◌, ◌++◌, ap, subst, SFits, w64, to_z-of_z}
use Rattle.std.specs.Prelude.{List, ℤ}
use Rattle.int_vector.specs.Vectors.{norm, largest}
use Rattle.system_shape.specs.Problem.{differences, x0_entry}
use Rattle.decompose_tool.specs.Inside.Steps.{user_of}
use Rattle.decompose_tool.proofs.Filling.{wide_before}
use Rattle.decompose_tool.proofs.FullVectors.{too_long}
use Rattle.decompose_tool.proofs.checking.fill.Goals as goal

pub returns-then-not-branch : goal.returns-then-not-branch
returns-then-not-branch c =
    let U = user_of c.args.shaped.now in
    let x = c.args.x.now in
    let ft : SFits w64 c.args.times = c.ranges.times in
    let d = differences U.rows c.args.times x in
    let front : c.extend_from_slice.new.self.items ≡ x = c.in_ok-extend_from_slice.ensures.items ∙ ap (λ v. v ++ x) c.clear.ensures.items in
    let wide : largest < norm (c.extend_from_slice.new.self.items ++ d) = too_long c.extend_from_slice.new.self.items d c.push_differences.new.full.items c.in_ok-push_differences.field-0 c.if-not-branch.true (simp to_z-of_z at c.in_ok-push_differences.ensures) in
    wide_before x d (x0_entry U.has_x0 c.args.times) (subst (λ (v : List ℤ). largest < norm (v ++ d)) front wide)
