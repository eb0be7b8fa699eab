-- The next norm is the lesser of the least norm of a pair and that of the first waiting row; where neither is there,
-- none comes.
use Rattle.std.proofs.Common.{arith}
use Rattle.stage_store.proofs.StageFields.{next_together, next_none, next_some}
use Rattle.stage_store.proofs.stage.Stage.least_norm.Goals as goal

pub returns-in-None : goal.returns-in-None
returns-in-None c =
    next_none c.args.self.now.listed c.args.self.now.waiting c.args.self.now.norm c.lesser.result c.in-None.is
    (next_together c.args.self.now c.least_pair-pairs.result c.first_waiting-waits.result c.lesser.result c.least_pair-pairs.ensures c.first_waiting-waits.ensures c.lesser.ensures)

pub returns-in-Some : goal.returns-in-Some
returns-in-Some c = (
  next_some c.args.self.now.listed c.args.self.now.waiting c.args.self.now.norm c.lesser.result c.in-Some.e c.in-Some.is
      (next_together c.args.self.now c.least_pair-pairs.result c.first_waiting-waits.result c.lesser.result c.least_pair-pairs.ensures c.first_waiting-waits.ensures c.lesser.ensures),
  c.if-e-gt9223372036854775807.true,
)

pub returns-in-Some-2 : goal.returns-in-Some-2
returns-in-Some-2 c = (
  next_some c.args.self.now.listed c.args.self.now.waiting c.args.self.now.norm c.lesser.result c.in-Some.e c.in-Some.is
      (next_together c.args.self.now c.least_pair-pairs.result c.first_waiting-waits.result c.lesser.result c.least_pair-pairs.ensures c.first_waiting-waits.ensures c.lesser.ensures),
  omega (arith, c.if-e-gt9223372036854775807.false),
)
