-- Halving: as norms ascend, the norm in the middle decides for all on one side of it.
use Rattle.std.proofs.Common.{ℕ, ◌≤◌, ◌<◌, length, arith, inl, inr, ap, sym, ◌≡◌, subst, ◌+◌, ◌-◌, ◌/◌}
use Rattle.std.proofs.lemmas.Bool.{cases_eq}
use Rattle.stage_store.specs.Classes.{norm_at, class_norm}
use Rattle.stage_store.proofs.Classes.{class_at, sorted_at}
use Rattle.stage_store.proofs.class.place_from.Goals as goal

pub loop-low-preserved-then-norm-n : goal.loop-low-preserved-then-norm-n
loop-low-preserved-then-norm-n c =
    let cs = c.args.classes.now in
    let m : ℕ = c.loop-low.low + (c.loop-low.high - c.loop-low.low) / 2 in
    let inside : m < length cs = omega (arith, c.loop-low-test.true, c.loop-low.invariant.within) in
    let at : c.index-classes-middle.result.norm ≡ norm_at cs m = ap class_norm (class_at cs m c.index-classes-middle.result inside c.index-classes-middle.is) in
    record {
      order = omega (arith, c.loop-low-test.true);
      within = c.loop-low.invariant.within;
      before = λ k l. elim (cases_eq k m) [
        | inl e ↦ subst (λ j. norm_at cs j < c.args.n) (sym e) (omega (arith, at, c.norm.ensures, c.if-norm-n.true))
        | inr d ↦ omega (arith, sorted_at cs k m c.requires (omega (arith, l, d)) inside, at, c.norm.ensures, c.if-norm-n.true)
      ];
      from = c.loop-low.invariant.from;
    }

pub loop-low-preserved : goal.loop-low-preserved
loop-low-preserved c =
    let cs = c.args.classes.now in
    let m : ℕ = c.loop-low.low + (c.loop-low.high - c.loop-low.low) / 2 in
    let inside : m < length cs = omega (arith, c.loop-low-test.true, c.loop-low.invariant.within) in
    let at : c.index-classes-middle.result.norm ≡ norm_at cs m = ap class_norm (class_at cs m c.index-classes-middle.result inside c.index-classes-middle.is) in
    record {
      order = omega (arith, c.loop-low-test.true);
      within = omega (arith, c.loop-low-test.true, c.loop-low.invariant.within);
      before = c.loop-low.invariant.before;
      from = λ k l w. elim (cases_eq k m) [
        | inl e ↦ subst (λ j. c.args.n ≤ norm_at cs j) (sym e) (omega (arith, at, c.norm.ensures, c.if-norm-n.false))
        | inr d ↦ omega (arith, sorted_at cs m k c.requires (omega (arith, l, d)) w, at, c.norm.ensures, c.if-norm-n.false)
      ];
    }
