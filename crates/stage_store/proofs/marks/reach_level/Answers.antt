use Rattle.std.proofs.Common.{◌≤◌, ◌^◌, arith}
use borrow.Author.Count.{below_more}
use Rattle.stage_store.proofs.marks.reach_level.Goals as goal

pub loop-level-preserved : goal.loop-level-preserved
loop-level-preserved c = below_more (λ k. 2 ^ k ≤ c.unsigned_abs-size.result) c.loop-level.level c.loop-level.invariant (omega (arith, c.amount.ensures.amount, c.if-size-amount.false))
