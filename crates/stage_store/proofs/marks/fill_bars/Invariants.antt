use Rattle.std.proofs.Common.{◌≡◌, length, true}
use Rattle.stage_store.specs.Levels.{AreTrueTo, BarsLine}
use Rattle.stage_store.proofs.marks.fill_bars.Given as goal

abbrev pub invariant-loop-k : goal.invariant-loop-k
invariant-loop-k l = record {
  count : length l.bars ≡ length l.fn.bars;
  bars : AreTrueTo l.k (BarsLine l.system.equations l.listed.rows l.row) true l.bars;
}
