-- No partial sum wraps: each product is at most 2^56 times an entry, and the sum of the entries is bounded by the norm.
use Rattle.std.proofs.Common.{arith, rules, ℕ, ◌*◌, ◌+◌, ◌∙◌, ◌≤◌, ◌<◌, length, get_or, take, SFits, w64, to_z, to_z-of_z, sym, ap}
use Rattle.std.specs.Prelude.{ℤ, pos, nat_abs, ◌+ℤ◌, ◌*ℤ◌}
use mir.Syntax.{w128}
use Rattle.int_vector.specs.Vectors.{norm}
use Rattle.int_vector.proofs.Steps.{dot_more, norm_more, norm_more_le}
use Rattle.int_vector.proofs.Products.{widens}
use Rattle.climb_tool.proofs.Entries.{cost_at, product_fits, sum_small, sum_fits}
use Rattle.climb_tool.proofs.points.cost_of.Goals as goal

pub overflow_add-sum : goal.overflow_add-sum
overflow_add-sum c =
    let x : ℤ = get_or c.args.cost.now c.loop-i.i (pos 0) in
    let y : ℤ = get_or c.args.vector.now c.loop-i.i (pos 0) in
    let l : c.loop-i.i < length c.args.vector.now = omega arith in
    let n : ℕ = norm (take c.loop-i.i c.args.vector.now) in
    let most : nat_abs y + n ≤ 590295810358705651712 = omega (arith, norm_more_le c.args.vector.now c.loop-i.i (pos 0) l, c.requires.small) in
    let small : nat_abs x ≤ 72057594037927936 = cost_at c.args.cost.now c.loop-i.i (pos 0) (omega arith) c.requires.costs in
    let fx : SFits w64 x = search rules in
    let fy : SFits w64 y = search rules in
    let gx : SFits w128 x = widens x fx in
    let gy : SFits w128 y = widens y fy in
    let p : SFits w128 (x *ℤ y) = product_fits x y small (omega (arith, most)) in
    simp to_z-of_z (sum_fits (to_z w128 c.loop-i.sum-bits) x y n c.loop-i.invariant.small small (omega (arith, most)))

pub loop-i-preserved : goal.loop-i-preserved
loop-i-preserved c =
    let x : ℤ = get_or c.args.cost.now c.loop-i.i (pos 0) in
    let y : ℤ = get_or c.args.vector.now c.loop-i.i (pos 0) in
    let t : ℤ = to_z w128 c.loop-i.sum-bits in
    let l : c.loop-i.i < length c.args.vector.now = omega arith in
    let n : ℕ = norm (take c.loop-i.i c.args.vector.now) in
    let most : nat_abs y + n ≤ 590295810358705651712 = omega (arith, norm_more_le c.args.vector.now c.loop-i.i (pos 0) l, c.requires.small) in
    let small : nat_abs x ≤ 72057594037927936 = cost_at c.args.cost.now c.loop-i.i (pos 0) (omega arith) c.requires.costs in
    let fx : SFits w64 x = search rules in
    let fy : SFits w64 y = search rules in
    let gx : SFits w128 x = widens x fx in
    let gy : SFits w128 y = widens y fy in
    let p : SFits w128 (x *ℤ y) = product_fits x y small (omega (arith, most)) in
    let m : nat_abs t ≤ 72057594037927936 * n = c.loop-i.invariant.small in
    let s : SFits w128 (t +ℤ (x *ℤ y)) = sum_fits t x y n m small (omega (arith, most)) in
    simp to_z-of_z (record {
      sum = ap (λ w. w +ℤ (x *ℤ y)) c.loop-i.invariant.sum ∙ sym (dot_more c.args.cost.now c.args.vector.now c.loop-i.i (pos 0) (pos 0) c.requires.lengths l);
      small = omega (arith, sum_small t x y n m small, norm_more c.args.vector.now c.loop-i.i (pos 0) l);
    })
