use Rattle.std.proofs.Common.{◌∙◌, arith}
use Rattle.stage_store.proofs.marks.near_level.Goals as goal

pub loop-known-preserved : goal.loop-known-preserved
loop-known-preserved c = record {
  probe = c.settle-known.ensures.length ∙ c.find_near.ensures.length ∙ c.loop-known.invariant.probe;
  most = omega (arith, c.settle-known.ensures.level, c.loop-known.invariant.most);
  near = λ small. c.settle-known.ensures.near;
}
