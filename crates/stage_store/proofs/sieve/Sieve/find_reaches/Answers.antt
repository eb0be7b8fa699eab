use Rattle.std.proofs.Common.{arith}
use Rattle.stage_store.proofs.Reaches.{one_reach_more}
use Rattle.stage_store.proofs.sieve.Sieve.find_reaches.Goals as goal

pub loop-i-preserved : goal.loop-i-preserved
loop-i-preserved c = record {
  same = c.loop-i.invariant.same;
  probe = omega (arith, c.reach_or-reach.ensures.probe, c.loop-i.invariant.probe);
  count = omega (arith, c.in_ok-push.ensures.len, c.loop-i.invariant.count);
  reaches = one_reach_more c.args.listed.now.rows c.loop-i.self.reaches.items c.push.new.self.items c.reach_or-reach.result c.loop-i.i c.in_ok-push.ensures.items c.loop-i.invariant.count c.loop-i.invariant.reaches c.reach_or-reach.ensures.reach;
}
