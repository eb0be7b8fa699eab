use Rattle.std.proofs.Common.{◌∙◌}
use Rattle.norm_board.proofs.share.Turn.fill.Goals as goal

pub invariant_of-share : goal.invariant_of-share
invariant_of-share c =
    let e = c.take_in.ensures in
    record { stage_is = e.alike.1.stage ∙ c.share.invariant.stage_is; scratch_is = c.share.invariant.scratch_is; there = λ r. c.share.invariant.there (e.room.1 r) }
