-- The blocks before the loop's number are all in the book; the first that is not shows that the book is not whole.
use Rattle.std.proofs.Common.{refl, sym, ap, subst, arith, below_more}
use Rattle.std.specs.List.{Contains}
use Rattle.lift_core.specs.PureMachine.{CoreState}
use Rattle.lift_core.proofs.machine.Core.is_whole.Goals as goal

pub returns-then-not-contains : goal.returns-then-not-contains
returns-then-not-contains c =
    let blocks = ap (λ (s : CoreState). s.blocks) c.self.view_is in
    let less = c.loop-number-test.true in (
      λ t. cc,
      λ whole. c.if-not-contains.ensures.1 (subst (λ (s : CoreState). Contains s.book c.loop-number.number) (sym c.self.view_is) (whole c.loop-number.number (omega arith))),
    )

pub loop-number-preserved : goal.loop-number-preserved
loop-number-preserved c =
    below_more (λ n. Contains c.args.self.now.book n) c.loop-number.number c.loop-number.invariant
    (subst (λ (s : CoreState). Contains s.book c.loop-number.number) c.self.view_is (c.if-not-contains.ensures.0 refl))
