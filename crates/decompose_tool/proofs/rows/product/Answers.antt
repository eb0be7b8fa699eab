-- No partial sum wraps: each product is below 2^126, and the sum of their absolute values is bounded by the norm.
use Rattle.std.proofs.Common.{arith, rules, ℕ, ◌*◌, ◌∙◌, ◌≤◌, ◌<◌, length, get_or, take, SFits, w64, to_z, to_z-of_z, sym, ap}
use Rattle.std.specs.Prelude.{ℤ, pos, nat_abs, ◌+ℤ◌, ◌*ℤ◌}
use mir.Syntax.{w128}
use Rattle.int_vector.specs.Vectors.{norm}
use Rattle.int_vector.proofs.Steps.{dot_more, norm_more, norm_more_le}
use Rattle.int_vector.proofs.Products.{widens, product_fits, sum_small, sum_fits}
use Rattle.decompose_tool.proofs.rows.product.Goals as goal

pub overflow_add-sum : goal.overflow_add-sum
overflow_add-sum c =
    let x : ℤ = get_or c.args.a.now c.loop-i.i (pos 0) in
    let y : ℤ = get_or c.args.x.now c.loop-i.i (pos 0) in
    let fx : SFits w64 x = search rules in
    let fy : SFits w64 y = search rules in
    let gx : SFits w128 x = widens x fx in
    let gy : SFits w128 y = widens y fy in
    let p : SFits w128 (x *ℤ y) = product_fits x y fx fy in
    let l : c.loop-i.i < length c.args.x.now = omega arith in
    simp to_z-of_z (sum_fits (to_z w128 c.loop-i.sum-bits) x y (norm (take c.loop-i.i c.args.x.now)) c.loop-i.invariant.small fx (omega (arith, norm_more_le c.args.x.now c.loop-i.i (pos 0) l)))

pub loop-i-preserved : goal.loop-i-preserved
loop-i-preserved c =
    let x : ℤ = get_or c.args.a.now c.loop-i.i (pos 0) in
    let y : ℤ = get_or c.args.x.now c.loop-i.i (pos 0) in
    let t : ℤ = to_z w128 c.loop-i.sum-bits in
    let n : ℕ = norm (take c.loop-i.i c.args.x.now) in
    let fx : SFits w64 x = search rules in
    let fy : SFits w64 y = search rules in
    let gx : SFits w128 x = widens x fx in
    let gy : SFits w128 y = widens y fy in
    let p : SFits w128 (x *ℤ y) = product_fits x y fx fy in
    let l : c.loop-i.i < length c.args.x.now = omega arith in
    let m : nat_abs t ≤ 9223372036854775808 * n = c.loop-i.invariant.small in
    let s : SFits w128 (t +ℤ (x *ℤ y)) = sum_fits t x y n m fx (omega (arith, norm_more_le c.args.x.now c.loop-i.i (pos 0) l)) in
    simp to_z-of_z (record {
      sum = ap (λ w. w +ℤ (x *ℤ y)) c.loop-i.invariant.sum ∙ sym (dot_more c.args.a.now c.args.x.now c.loop-i.i (pos 0) (pos 0) c.requires.lengths l);
      small = omega (arith, sum_small t x y n m fx, norm_more c.args.x.now c.loop-i.i (pos 0) l);
    })
