use Rattle.std.proofs.Common.{arith}
use Rattle.stage_store.proofs.Negatives.{all_negated}
use Rattle.stage_store.proofs.mirror.is_negative.Goals as goal

pub returns : goal.returns
returns c = λ _. all_negated c.args.u.now c.args.v.now c.if-u-v.false (λ k l. c.loop-k.invariant k (omega (arith, l, c.loop-k-test.false)))
