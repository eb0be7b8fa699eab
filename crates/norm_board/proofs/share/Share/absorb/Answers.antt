-- Each share keeps its stage and its scratch, whichever of both books the rows are in.
use Rattle.std.proofs.Common.{◌∙◌}
use Rattle.norm_board.proofs.share.Share.absorb.Goals as goal

pub invariant_of-self : goal.invariant_of-self
invariant_of-self c =
    let e = c.take_in.ensures in
    record { stage_is = e.alike.0.stage ∙ c.self.invariant.stage_is; scratch_is = c.self.invariant.scratch_is; there = λ r. c.self.invariant.there (e.room.0 r) }

pub invariant_of-other : goal.invariant_of-other
invariant_of-other c =
    let e = c.take_in.ensures in
    record { stage_is = e.alike.1.stage ∙ c.other.invariant.stage_is; scratch_is = c.other.invariant.scratch_is; there = λ r. c.other.invariant.there (e.room.1 r) }
