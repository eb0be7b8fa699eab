-- The turn is given back with the share's blocks, or as it was found.
use Rattle.std.proofs.Common.{◌∙◌}
use Rattle.norm_board.proofs.Puts.{may_put, may_back, has_put, has_back}
use Rattle.norm_board.proofs.board.Board.put.Goals as goal

pub give-requires-clause-blocks : goal.give-requires-clause-blocks
give-requires-clause-blocks c =
    let t = c.in-Some.ensures.some in
    rw (t.0, c.in-Ok.ensures.ok.0) (may_put _ c.in-Some.turn t.1 _ c.requires.blocks)

pub give-requires-in-Err-clause-blocks : goal.give-requires-in-Err-clause-blocks
give-requires-in-Err-clause-blocks c =
    let t = c.in-Some.ensures.some in
    rw (t.0, c.in-Err.ensures.err.0.blocks) (may_back _ c.in-Some.turn t.1 _ c.requires.blocks)

pub returns-in-Ok-clause-done : goal.returns-in-Ok-clause-done
returns-in-Ok-clause-done c =
    let t = c.in-Some.ensures.some in
    let blocks = c.in-Ok.ensures.ok in
    (rw (c.give.ensures.view, t.0, blocks.0) (has_put _ c.in-Some.turn t.1 _ c.requires.blocks), blocks.1)

pub returns-in-Err-clause-done : goal.returns-in-Err-clause-done
returns-in-Err-clause-done c =
    let t = c.in-Some.ensures.some in
    let same = c.in-Err.ensures.err in
    (c.give-in-Err.ensures.view ∙ rw (t.0, same.0.blocks) (has_back _ c.in-Some.turn t.1 _ c.requires.blocks c.requires.free c.take.ensures.clean), same.1)
