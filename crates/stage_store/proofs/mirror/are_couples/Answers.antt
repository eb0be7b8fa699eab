use Rattle.std.proofs.Common.{arith}
use Rattle.stage_store.proofs.mirror.are_couples.Goals as goal

pub returns : goal.returns
returns c = λ _. record {
  count = omega (arith, c.if-plus-minus.false);
  each = λ k l. c.loop-k.invariant k (omega (arith, l, c.loop-k-test.false));
}
