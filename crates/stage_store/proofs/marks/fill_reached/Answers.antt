-- The items written so far tell which lines are reached, and one item more does.
use Rattle.std.proofs.Common.{◌∙◌, false, arith}
use Rattle.std.proofs.lemmas.List.{length-set}
use Rattle.stage_store.specs.Levels.{ReachesLine}
use Rattle.stage_store.proofs.Levels.{true_more, reach_item}
use Rattle.stage_store.proofs.marks.fill_reached.Goals as goal

pub loop-k-preserved : goal.loop-k-preserved
loop-k-preserved c = record {
  count = length-set c.loop-k.reached c.loop-k.k c.reach_level.result ∙ c.loop-k.invariant.count;
  reached = true_more (ReachesLine c.args.row.now) false c.loop-k.reached c.loop-k.k c.reach_level.result (omega (arith, c.loop-k-test.true, c.loop-k.invariant.count))
      (reach_item c.args.row.now c.loop-k.k c.reach_level.result c.reach_level.ensures) c.loop-k.invariant.reached;
}
