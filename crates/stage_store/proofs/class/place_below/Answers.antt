-- The class before the place has a norm below n, and with it, as norms ascend, all before it.
use Rattle.std.proofs.Common.{ℕ, ◌<◌, ◌-◌, length, arith, inl, inr, ap, sym, ◌≡◌, subst}
use Rattle.std.proofs.lemmas.Bool.{cases_eq}
use Rattle.stage_store.specs.Classes.{norm_at, class_norm}
use Rattle.stage_store.proofs.Classes.{class_at, sorted_at}
use Rattle.stage_store.proofs.class.place_below.Goals as goal

pub returns-else-norm-n-clause-before : goal.returns-else-norm-n-clause-before
returns-else-norm-n-clause-before c =
    let cs = c.args.classes.now in
    let m : ℕ = c.loop-place.place - 1 in
    let inside : m < length cs = omega (arith, c.loop-place-test.true, c.loop-place.invariant) in
    let at : c.index-classes-place.result.norm ≡ norm_at cs m = ap class_norm (class_at cs m c.index-classes-place.result inside c.index-classes-place.is) in
    λ k l. elim (cases_eq k m) [
      | inl e ↦ subst (λ j. norm_at cs j < c.args.n) (sym e) (omega (arith, at, c.norm.ensures, c.if-norm-n.false))
      | inr d ↦ omega (arith, sorted_at cs k m c.requires.sorted (omega (arith, l, d)) inside, at, c.norm.ensures, c.if-norm-n.false)
    ]
