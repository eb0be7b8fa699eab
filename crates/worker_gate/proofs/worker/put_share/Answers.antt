-- The put keeps the blocks of the share, or leaves them where they are.
use Rattle.norm_board.specs.Seen.{view}
use Rattle.worker_gate.proofs.Works.{may, put_leaves, leaves_of, put_empty}
use Rattle.worker_gate.proofs.worker.put_share.Goals as goal

pub put-end-requires-clause-blocks : goal.put-end-requires-clause-blocks
put-end-requires-clause-blocks g c = may (view c.args.pass.now) c.args.share.now.blocks c.requires.blocks

pub returns-clause-still : goal.returns-clause-still
returns-clause-still g c =
    let e = c.put-end.ensures in
    record { own = e.same.0; free = e.same.1; is_of = e.same.2; blocks = put_leaves _ _ _ _ _ e.done c.requires.blocks }

pub returns-clause-leaves : goal.returns-clause-leaves
returns-clause-leaves g c = leaves_of _ _ _ _ _ c.put-end.ensures.done

pub returns-clause-empty : goal.returns-clause-empty
returns-clause-empty g c same = put_empty _ _ _ _ _ c.put-end.ensures.done c.in_default.not-Memory same
