-- Halving: as norms ascend, where the norm in the middle is above the most, all behind it are.
use Rattle.std.proofs.Common.{◌+◌, ◌-◌, ◌/◌, arith}
use Rattle.stage_store.proofs.CountedPairs.{norms_ascend}
use Rattle.stage_store.proofs.counting.rows_within.Goals as goal

pub loop-low-preserved : goal.loop-low-preserved
loop-low-preserved c = record {
  order = omega (arith, c.loop-low-test.true);
  within = omega (arith, c.loop-low-test.true, c.loop-low.invariant.within);
  behind = λ k l inside.
      omega (arith, c.norm_at.ensures.norm, c.if-norm_at-most.false, norms_ascend c.args.listed.now.rows (c.loop-low.low + (c.loop-low.high - c.loop-low.low) / 2) k c.requires.ascending l inside);
}
