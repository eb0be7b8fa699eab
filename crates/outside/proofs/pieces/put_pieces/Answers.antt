use Rattle.std.proofs.Common.{arith}
use Rattle.std.proofs.lemmas.Result.{err_from_is_err_and}
use Rattle.outside.proofs.Putting.{put_front}
use Rattle.outside.proofs.pieces.put_pieces.Goals as goal

pub returns-in_err-put-clause-refused : goal.returns-in_err-put-clause-refused
returns-in_err-put-clause-refused g c =
    let p = err_from_is_err_and c.from_residual.result c.from_residual.ensures.1 in
    rw p.1 (put_front c.args.pieces.now c.loop-piece.piece-index _ (g.S.Sink.held c.args.sink.now) (g.S.Sink.held c.loop-piece.sink) (g.S.Sink.held c.put.new.self)
    (omega arith) c.loop-piece.invariant.put c.in_err-put.ensures.refused)
