-- Each entry that is written is the sum of the two entries at its place, and those before it are so already.
use Rattle.std.proofs.Common.{◌≡◌, ◌∙◌, arith, get_or, pos, rules, SFits, w64, to_z-of_z}
use Rattle.std.specs.Prelude.{◌+ℤ◌}
use Rattle.std.proofs.lemmas.List.{length-set}
use Rattle.int_vector.proofs.Sums.{sum_step, sum_done}
use Rattle.int_vector.proofs.add_into.Goals as goal

pub loop-i-preserved : goal.loop-i-preserved
loop-i-preserved c =
    let f : SFits w64 (get_or c.args.u.now c.loop-i.i (pos 0)) = search rules in
    let g : SFits w64 (get_or c.args.v.now c.loop-i.i (pos 0)) = search rules in
    let r : SFits w64 c.plus.result = search rules in
    let is : c.plus.result ≡ get_or c.args.u.now c.loop-i.i (pos 0) +ℤ get_or c.args.v.now c.loop-i.i (pos 0) = simp to_z-of_z at c.plus.ensures in
    record {
      length = length-set c.loop-i.out c.loop-i.i _ ∙ c.loop-i.invariant.length;
      sum = simp to_z-of_z (sum_step c.args.u.now c.args.v.now c.loop-i.out c.loop-i.i c.plus.result c.loop-i.invariant.length (omega (arith, c.requires.first, c.requires.second)) (omega (arith, c.loop-i.invariant.length, c.requires.first)) c.loop-i.invariant.sum is);
    }

pub returns : goal.returns
returns c = sum_done c.args.u.now c.args.v.now c.loop-i.out c.loop-i.i c.loop-i.invariant.length (omega (arith, c.requires.first, c.requires.second)) (omega (arith, c.loop-i.invariant.length, c.requires.first)) c.loop-i.invariant.sum
