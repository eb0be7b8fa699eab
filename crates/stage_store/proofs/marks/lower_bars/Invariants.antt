use Rattle.std.proofs.Common.{◌≡◌, length, true}
use Rattle.stage_store.specs.Levels.{AreTrue, BarsLine}
use Rattle.stage_store.proofs.marks.lower_bars.Given as goal

abbrev pub invariant-loop-k : goal.invariant-loop-k
invariant-loop-k l = record {
  probe : length l.probe ≡ length l.fn.probe;
  count : length l.bars ≡ length l.fn.bars;
  bars : AreTrue (BarsLine l.system.equations l.listed.rows l.row) true l.bars;
}
