-- One entry more is what is left.
use Rattle.std.proofs.Common.{◌≡◌, ◌∙◌, ◌<◌, length, get_or, pos, sym, ap, subst, rules, SFits, w64, to_z-of_z, arith}
use Rattle.std.specs.Prelude.{ℤ, ◌*ℤ◌, ◌-ℤ◌}
use Rattle.int_vector.specs.Range.{InRange}
use Rattle.int_vector.specs.Operations.{subtract}
use Rattle.int_vector.specs.Vectors.{IsWithin}
use Rattle.decompose_tool.specs.Walks.{times}
use Rattle.decompose_tool.proofs.InPlace.{replaced_start, replaced_more, replaced_all, replaced_at, length-subtract, length-times_here, subtract-at, within_at, range_at}
use Rattle.decompose_tool.proofs.walking.remove.Goals as goal

pub loop-j-init : goal.loop-j-init
loop-j-init c =
    let rest = c.args.rest.now in
    let u = c.args.u.now in
    replaced_start rest (subtract rest (times c.args.c u)) (sym (length-subtract rest (times c.args.c u) (length-times_here c.args.c u ∙ c.requires.width)))

pub less-requires-clause-range : goal.less-requires-clause-range
less-requires-clause-range c =
    let rest = c.args.rest.now in
    let f : SFits w64 (get_or c.loop-j.rest c.loop-j.j (pos 0)) = search rules in
    simp to_z-of_z (subst InRange (sym (replaced_at rest _ c.loop-j.rest c.loop-j.j c.loop-j.invariant)) (range_at rest c.loop-j.j c.requires.rest (omega (arith, c.loop-j-test.true, c.requires.width))))

pub less-requires-clause-within : goal.less-requires-clause-within
less-requires-clause-within c =
    let rest = c.args.rest.now in
    let u = c.args.u.now in
    let f : SFits w64 (get_or c.loop-j.rest c.loop-j.j (pos 0)) = search rules in
    let g : SFits w64 (get_or u c.loop-j.j (pos 0)) = search rules in
    simp to_z-of_z (subst (λ (r : ℤ). IsWithin (pos c.args.c *ℤ get_or u c.loop-j.j (pos 0)) r) (sym (replaced_at rest _ c.loop-j.rest c.loop-j.j c.loop-j.invariant)) (within_at c.args.c u rest c.loop-j.j c.requires.below c.loop-j-test.true))

pub loop-j-preserved : goal.loop-j-preserved
loop-j-preserved c =
    let rest = c.args.rest.now in
    let u = c.args.u.now in
    let j = c.loop-j.j in
    let l : j < length u = c.loop-j-test.true in
    let m : j < length c.loop-j.rest = omega (arith, c.loop-j.auto.rest, l, c.requires.width) in
    let f : SFits w64 (get_or c.loop-j.rest j (pos 0)) = search rules in
    let g : SFits w64 (get_or u j (pos 0)) = search rules in
    let h : SFits w64 c.less.result = search rules in
    let is : c.less.result ≡ get_or c.loop-j.rest j (pos 0) -ℤ (pos c.args.c *ℤ get_or u j (pos 0)) = simp to_z-of_z at c.less.ensures in
    simp to_z-of_z (replaced_more rest (subtract rest (times c.args.c u)) c.loop-j.rest j c.less.result m
    (is ∙ ap (λ r. r -ℤ (pos c.args.c *ℤ get_or u j (pos 0))) (replaced_at rest _ c.loop-j.rest j c.loop-j.invariant) ∙ sym (subtract-at c.args.c rest u j c.requires.width l)) c.loop-j.invariant)

pub returns : goal.returns
returns c =
    replaced_all c.args.rest.now (subtract c.args.rest.now (times c.args.c c.args.u.now)) c.loop-j.rest c.loop-j.j (omega (arith, c.loop-j.auto.rest, c.loop-j-test.false, c.requires.width)) c.loop-j.invariant
