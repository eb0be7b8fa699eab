-- The marks so far are of the thresholds before the loop's level, which the size reaches; it ends at the first that it
-- does not reach, or when all are reached.
use Rattle.reduce_tree.proofs.Signatures.{marks_stopped, marks_more, marks_ended}
use Rattle.reduce_tree.proofs.signature.marks.Goals as goal

pub returns-then-size-thresholds : goal.returns-then-size-thresholds
returns-then-size-thresholds c = marks_stopped c.args.first c.args.thresholds.now c.args.size c.loop-level.level c.loop-level.marks c.loop-level.invariant c.loop-level-test.true c.if-size-thresholds.true

pub loop-level-preserved : goal.loop-level-preserved
loop-level-preserved c = marks_more c.args.first c.args.thresholds.now c.args.size c.loop-level.level c.loop-level.marks c.loop-level.invariant c.loop-level-test.true c.if-size-thresholds.false

pub returns : goal.returns
returns c = marks_ended c.args.first c.args.thresholds.now c.args.size c.loop-level.level c.loop-level.marks c.loop-level.invariant c.loop-level-test.false
