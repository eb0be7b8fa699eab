use Rattle.stage_store.proofs.Levels.{row_contained}
use Rattle.stage_store.proofs.marks.settle.Goals as goal

pub returns-then-shows_near-clause-near : goal.returns-then-shows_near-clause-near
returns-then-shows_near-clause-near c =
    c.shows_near.ensures.near c.args.listed.now.rows (row_contained c.args.listed.now.rows c.args.id.0 c.row-other.result.now c.requires.id c.row-other.ensures.row) c.if-shows_near.true
