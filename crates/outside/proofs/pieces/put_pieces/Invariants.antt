use Rattle.std.proofs.Common.{◌≡◌, ◌≤◌, take}
use Rattle.std.specs.Io.KnownBytes.{append_known}
use Rattle.outside.specs.Pieces.{text_of_pieces}
use Rattle.outside.proofs.pieces.put_pieces.Given as goal

abbrev pub invariant-loop-piece : goal.invariant-loop-piece
invariant-loop-piece g l = record {
  put : g.S.Sink.held l.sink ≡ append_known (g.S.Sink.held l.fn.sink) (text_of_pieces (take l.piece-index l.pieces));
  later : g.S.Sink.faults l.fn.sink ≤ g.S.Sink.faults l.sink;
}
