use Rattle.std.proofs.Common.{◌+◌, ◌-◌, ◌/◌, arith}
use Rattle.stage_store.proofs.NumberedSums.{all_before, all_after}
use Rattle.stage_store.proofs.numbered.open_from.Goals as goal

pub loop-low-preserved-then-pairs-middle : goal.loop-low-preserved-then-pairs-middle
loop-low-preserved-then-pairs-middle c = record {
  order = omega (arith, c.loop-low-test.true);
  within = c.loop-low.invariant.within;
  before = all_before c.args.pairs.now (c.loop-low.low + (c.loop-low.high - c.loop-low.low) / 2) c.args.first _ c.requires (omega (arith, c.loop-low-test.true, c.loop-low.invariant.within)) c.if-pairs-middle.true;
  after = c.loop-low.invariant.after;
}

pub loop-low-preserved : goal.loop-low-preserved
loop-low-preserved c = record {
  order = omega arith;
  within = omega (arith, c.loop-low-test.true, c.loop-low.invariant.within);
  before = c.loop-low.invariant.before;
  after = all_after c.args.pairs.now (c.loop-low.low + (c.loop-low.high - c.loop-low.low) / 2) c.args.first _ c.requires (omega (arith, c.loop-low-test.true, c.loop-low.invariant.within)) c.if-pairs-middle.false;
}
