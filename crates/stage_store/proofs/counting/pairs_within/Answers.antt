-- Rows ascend by norm, so going down from the last row the partners that fit are a front of the list that only grows:
-- each row with a positive last entry adds those of the front that have a negative one.
use Rattle.std.proofs.Common.{◌∙◌, ◌-◌, ap, sym, subst, arith}
use Rattle.lift_core.specs.Stages.{has_positive_last}
use Rattle.stage_store.specs.CountedPairs.{IsWithinReach, IsBeyondReach}
use Rattle.stage_store.proofs.CountedPairs.{counted_first, counted_other}
use Rattle.stage_store.proofs.counting.pairs_within.Goals as goal

pub loop-i-preserved-then-has_sign : goal.loop-i-preserved-then-has_sign
loop-i-preserved-then-has_sign c =
    let listed = c.args.listed.now.rows in
    let reach = c.extended_reach-reach.result in
    counted_first listed c.args.norm (c.loop-i.i - 1) c.loop-i.i c.loop-i.reach.end
    c.loop-i.reach.seconds c.loop-i.pairs (omega (arith, c.loop-i-test.true))
    (omega (arith, c.loop-i-test.true, c.loop-i.auto.i, c.len-i.ensures)) c.loop-i.invariant
    reach.end reach.seconds c.requires.ascending c.requires.few
    (sym (c.has_sign.ensures ∙ ap has_positive_last c.row.ensures.row) ∙ c.if-has_sign.true)
    (subst (λ n. IsWithinReach listed n c.args.norm reach.end reach.seconds)
    c.norm_at.ensures.norm c.extended_reach-reach.ensures.within)
    (subst (λ n. IsBeyondReach listed n c.args.norm reach.end) c.norm_at.ensures.norm
    c.extended_reach-reach.ensures.beyond)

pub loop-i-preserved : goal.loop-i-preserved
loop-i-preserved c =
    counted_other c.args.listed.now.rows c.args.norm (c.loop-i.i - 1) c.loop-i.i
    c.loop-i.reach.end c.loop-i.reach.seconds c.loop-i.pairs (omega (arith, c.loop-i-test.true))
    (omega (arith, c.loop-i-test.true, c.loop-i.auto.i, c.len-i.ensures)) c.loop-i.invariant
    (sym (c.has_sign.ensures ∙ ap has_positive_last c.row.ensures.row) ∙ c.if-has_sign.false)
