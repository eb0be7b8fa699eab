use Rattle.std.proofs.Common.{arith, rules, ◌<◌, length, get_or, pos, SFits, w64, to_z-of_z}
use Rattle.int_vector.proofs.Steps.{norm_more_le}
use Rattle.int_vector.proofs.norm.Goals as goal

pub returns-then-sum-gt-LARGEST : goal.returns-then-sum-gt-LARGEST
returns-then-sum-gt-LARGEST c =
    let l : c.loop-x.x-index < length c.args.v.now = omega arith in
    let f : SFits w64 (get_or c.args.v.now c.loop-x.x-index (pos 0)) = search rules in
    omega (arith, norm_more_le c.args.v.now c.loop-x.x-index (pos 0) l, simp to_z-of_z at c.unsigned_abs-sum.ensures.value, c.if-sum-gt-LARGEST.true)
