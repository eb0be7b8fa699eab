-- The items written so far tell which lines bar, and one item more does.
use Rattle.std.proofs.Common.{◌∙◌, true, arith}
use Rattle.std.proofs.lemmas.List.{length-set}
use Rattle.stage_store.specs.Levels.{BarsLine}
use Rattle.stage_store.proofs.Levels.{true_more, bar_item}
use Rattle.stage_store.proofs.marks.fill_bars.Goals as goal

pub loop-k-preserved : goal.loop-k-preserved
loop-k-preserved c = record {
  count = length-set c.loop-k.bars c.loop-k.k c.plain_level.result ∙ c.loop-k.invariant.count;
  bars = true_more (BarsLine c.args.system.now.equations c.args.listed.now.rows c.args.row.now) true c.loop-k.bars c.loop-k.k c.plain_level.result (omega (arith, c.loop-k-test.true, c.loop-k.invariant.count))
      (bar_item c.args.system.now.equations c.args.listed.now.rows c.args.row.now c.loop-k.k c.plain_level.result c.plain_level.ensures) c.loop-k.invariant.bars;
}
