use Rattle.std.proofs.Common.{◌∙◌, arith}
use Rattle.stage_store.proofs.Reaches.{far_rows}
use Rattle.stage_store.proofs.reach.are_far.Goals as goal

pub returns : goal.returns
returns c = λ S t.
    far_rows S c.args.listed.now.rows c.args.f c.args.g c.row.result.now c.row-2.result.now c.args.width _ _ c.row.ensures.row c.row-2.ensures.row (c.row.ensures.width ∙ c.requires.width) (c.row-2.ensures.width ∙ c.requires.width) (c.is_far.ensures t)
    (c.requires.reaches c.args.f (omega (arith, c.requires.one, c.requires.count))) (c.requires.reaches c.args.g (omega (arith, c.requires.two, c.requires.count)))
