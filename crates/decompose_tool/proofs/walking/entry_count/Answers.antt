-- The three cases: always, never, and as often as the quotient says.
use Rattle.std.proofs.Common.{◌≡◌, ap, SFits, w64, to_z-of_z, of_z, inl, inr}
use Rattle.std.specs.Prelude.{nat_abs}
use Rattle.decompose_tool.proofs.Counting.{never, quotient}
use Rattle.decompose_tool.proofs.walking.entry_count.Goals as goal

pub returns-then-are_opposite-clause-exact : goal.returns-then-are_opposite-clause-exact
returns-then-are_opposite-clause-exact c =
    let fa : SFits w64 c.args.a = c.ranges.a in
    let fr : SFits w64 c.args.r = c.ranges.r in
    λ k l. never k c.args.a c.args.r ((simp to_z-of_z at c.are_opposite.ensures).0 c.if-are_opposite.true)

pub returns-else-are_opposite-clause-exact : goal.returns-else-are_opposite-clause-exact
returns-else-are_opposite-clause-exact c =
    let fa : SFits w64 c.args.a = c.ranges.a in
    let fr : SFits w64 c.args.r = c.ranges.r in
    let up : c.unsigned_abs.result ≡ nat_abs c.args.r = simp to_z-of_z at c.unsigned_abs.ensures.value in
    let down : c.unsigned_abs-else-are_opposite.result ≡ nat_abs c.args.a = simp to_z-of_z at c.unsigned_abs-else-are_opposite.ensures.value in
    let same = simp to_z-of_z at c.are_opposite.ensures in
    λ k l. rw (up, down)
    (quotient k c.args.a c.args.r (λ e. c.if-a-eq0.false (ap (of_z w64) e)) (λ h. let t = same.1 (inl h) in let f = c.if-are_opposite.false in cc) (λ h. let t = same.1 (inr h) in let f = c.if-are_opposite.false in cc))
