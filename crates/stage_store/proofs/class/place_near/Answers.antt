-- The first class onward whose norm is not below n: as norms ascend, none behind it is.
use Rattle.std.proofs.Common.{ℕ, ◌≤◌, arith, inl, inr, ap, sym, ◌≡◌, subst}
use Rattle.std.proofs.lemmas.Bool.{cases_eq}
use Rattle.stage_store.specs.Classes.{norm_at, class_norm}
use Rattle.stage_store.proofs.Classes.{class_at, sorted_at}
use Rattle.stage_store.proofs.class.place_near.Goals as goal

pub returns-else-norm-n-clause-from : goal.returns-else-norm-n-clause-from
returns-else-norm-n-clause-from c =
    let cs = c.args.classes.now in
    let m : ℕ = c.loop-place.place in
    let at : c.index-classes-place.result.norm ≡ norm_at cs m = ap class_norm (class_at cs m c.index-classes-place.result c.loop-place-test.true c.index-classes-place.is) in
    λ k l w. elim (cases_eq k m) [
      | inl e ↦ subst (λ j. c.args.n ≤ norm_at cs j) (sym e) (omega (arith, at, c.norm.ensures, c.if-norm-n.false))
      | inr d ↦ omega (arith, sorted_at cs m k c.requires (omega (arith, l, d)) w, at, c.norm.ensures, c.if-norm-n.false)
    ]
