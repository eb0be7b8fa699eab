-- The piece is sent, or a refusal leaves a prefix.
use Rattle.std.proofs.lemmas.Result.{err_from_is_err_and}
use Rattle.std.proofs.Common.{ℕ, List, ◌++◌, subst}
use Rattle.sha2.specs.Hashers.{Holds256}
use Rattle.restart_file.proofs.Sending.{piece_sent, piece_refused}
use Rattle.restart_file.proofs.writing.send.Goals as goal

pub returns-in_err-append-clause-refused : goal.returns-in_err-append-clause-refused
returns-in_err-append-clause-refused g c = λ bytes rest before sent.
    let p = err_from_is_err_and c.from_residual.result c.from_residual.ensures.1 in
    rw p.1
    (piece_refused c.args.name.now bytes before (g.F.Folder.held c.args.folder.now) (g.F.Folder.held c.append.new.self) c.args.hasher.now c.args.hasher.now c.args.piece.now.items rest c.deref.result.now c.deref.ensures.value sent c.in_err-append.ensures.refused)

pub returns-clause-done : goal.returns-clause-done
returns-clause-done g c = λ bytes rest before sent.
    piece_sent c.args.name.now bytes before (g.F.Folder.held c.args.folder.now) (g.F.Folder.held c.append.new.self) c.args.hasher.now c.update.new.self c.args.piece.now.items rest c.deref.result.now c.deref.ensures.value sent c.in_ok-append.ensures.done
    (subst (λ (p : List ℕ). (m : List ℕ) → Holds256 c.args.hasher.now m → Holds256 c.update.new.self (m ++ p)) c.as_slice.ensures.value c.update.ensures)
