-- The item is told anew, and all others stay.
use Rattle.std.proofs.Common.{true}
use Rattle.stage_store.specs.Levels.{BarsLine}
use Rattle.stage_store.proofs.Levels.{true_again, bar_item}
use Rattle.stage_store.proofs.marks.lower_bar.Goals as goal

pub returns-clause-bars : goal.returns-clause-bars
returns-clause-bars c =
    true_again (BarsLine c.args.system.now.equations c.args.listed.now.rows c.args.row.now) true c.args.bars.now c.args.item c.bar_level-level.result c.requires.item
    (bar_item c.args.system.now.equations c.args.listed.now.rows c.args.row.now c.args.item c.bar_level-level.result c.bar_level-level.ensures.bars) c.requires.bars
