-- One entry more is negated.
use Rattle.std.proofs.Common.{◌≡◌, ◌∙◌, ◌<◌, length, get_or, pos, sym, ap, subst, rules, SFits, w64, to_z-of_z, arith}
use Rattle.std.specs.Prelude.{neg_ℤ}
use Rattle.int_vector.specs.Range.{InRange}
use Rattle.int_vector.specs.Vectors.{negated}
use Rattle.decompose_tool.proofs.InPlace.{replaced_more, replaced_at, negated-at, range_at}
use Rattle.decompose_tool.proofs.walking.negate.Goals as goal

pub loop-j-preserved : goal.loop-j-preserved
loop-j-preserved c =
    let v = c.args.v.now in
    let j = c.loop-j.j in
    let l : j < length v = c.loop-j-test.true in
    let m : j < length c.loop-j.v = omega (arith, c.loop-j.auto.v, l) in
    let f : SFits w64 (get_or c.loop-j.v j (pos 0)) = search rules in
    let g : SFits w64 c.opposite.result = search rules in
    let is : c.opposite.result ≡ neg_ℤ (get_or c.loop-j.v j (pos 0)) = simp to_z-of_z at c.opposite.ensures in
    simp to_z-of_z (replaced_more v (negated v) c.loop-j.v j c.opposite.result m
    (is ∙ ap neg_ℤ (replaced_at v (negated v) c.loop-j.v j c.loop-j.invariant) ∙ sym (negated-at v j l)) c.loop-j.invariant)

pub opposite-requires : goal.opposite-requires
opposite-requires c =
    let v = c.args.v.now in
    let f : SFits w64 (get_or c.loop-j.v c.loop-j.j (pos 0)) = search rules in
    simp to_z-of_z (subst InRange (sym (replaced_at v (negated v) c.loop-j.v c.loop-j.j c.loop-j.invariant)) (range_at v c.loop-j.j c.requires c.loop-j-test.true))
