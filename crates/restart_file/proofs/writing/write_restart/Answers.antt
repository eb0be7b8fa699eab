-- One line more is in the piece or sent, or a refusal leaves a prefix.
use Rattle.std.proofs.lemmas.Result.{err_from_is_err_and}
use Rattle.std.proofs.Common.{arith, ap, ◌++◌, ◌+◌, drop, List, [], ℕ}
use Rattle.std.specs.List.{concat}
use Rattle.restart_file.specs.declared.lines.Version.TheVariants.{Second}
use Rattle.restart_file.specs.Texts.{restart_lines, progress_of}
use Rattle.restart_file.specs.Inside.Sending.{IsSent}
use Rattle.std.specs.Prelude.{Option}
use Rattle.std.specs.Global.{Vec}
use Rattle.outside.specs.Files.{Files}
use Rattle.restart_file.proofs.Sending.{stopped, no_more_lines, next_line, emptied, placed}
use Rattle.restart_file.proofs.writing.write_restart.Goals as goal
use Rattle.restart_file.proofs.writing.write_restart.Goals.{then-len-ge-PIECE+in_ok-send, else-len-ge-PIECE}

pub returns-in_err-push_line-clause-refused : goal.returns-in_err-push_line-clause-refused
returns-in_err-push_line-clause-refused g c =
    let p = err_from_is_err_and c.from_residual-in_err-push_line.result c.from_residual-in_err-push_line.ensures.1 in
    rw p.1 (stopped c.args.name.now _ (g.F.Folder.held c.args.folder.now) (g.F.Folder.held c.loop-i.folder) (g.F.Folder.held c.loop-i.folder) c.loop-i.hasher c.loop-i.hasher _ c.loop-i.invariant.sent)

pub returns-in_err-send-clause-refused : goal.returns-in_err-send-clause-refused
returns-in_err-send-clause-refused g c =
    let p = err_from_is_err_and c.from_residual-in_err-send.result c.from_residual-in_err-send.ensures.1 in
    let lines : List (List ℕ) = restart_lines Second c.args.stage.now.system (progress_of c.args.stage.now) in
    rw p.1
    (c.in_err-send.ensures.refused (concat lines) (concat (drop (c.loop-i.i + 1) lines)) (g.F.Folder.held c.args.folder.now)
    (next_line c.args.name.now lines c.loop-i.i c.loop-i.piece.items c.push_line.new.line.items (g.F.Folder.held c.args.folder.now) (g.F.Folder.held c.loop-i.folder) c.loop-i.hasher (omega (arith, c.loop-i-test.true, c.line_count-i-end.ensures)) c.in_ok-push_line.ensures c.loop-i.invariant.sent))

pub loop-i-preserved : goal.loop-i-preserved
loop-i-preserved g c =
    let lines : List (List ℕ) = restart_lines Second c.args.stage.now.system (progress_of c.args.stage.now) in
    let rest : List ℕ = concat (drop (c.loop-i.i + 1) lines) in
    let before : Option Files = g.F.Folder.held c.args.folder.now in
    let sent : IsSent c.args.name.now (concat lines) (c.push_line.new.line.items ++ rest) before (g.F.Folder.held c.loop-i.folder) c.loop-i.hasher =
    next_line c.args.name.now lines c.loop-i.i c.loop-i.piece.items c.push_line.new.line.items before (g.F.Folder.held c.loop-i.folder) c.loop-i.hasher (omega (arith, c.loop-i-test.true, c.line_count-i-end.ensures)) c.in_ok-push_line.ensures
    c.loop-i.invariant.sent
    in
    elim c.if-len-ge-PIECE.branch [
      | then-len-ge-PIECE+in_ok-send w ↦ record {
        sent =
            placed c.args.name.now (concat lines) rest w.send.new.piece.items c.if-len-ge-PIECE.piece.items before (g.F.Folder.held w.send.new.folder) (g.F.Folder.held c.if-len-ge-PIECE.folder) w.send.new.hasher c.if-len-ge-PIECE.hasher
            (ap (λ (v : Vec ℕ). v.items) w.piece-is) (ap g.F.Folder.held w.folder-is) w.hasher-is
            (emptied c.args.name.now lines (c.loop-i.i + 1) [] w.send.new.piece.items before (g.F.Folder.held w.send.new.folder) w.send.new.hasher w.in_ok-send.ensures.empty (w.in_ok-send.ensures.done (concat lines) rest before sent));
        later = omega (arith, c.loop-i.invariant.later, w.in_ok-send.ensures.cause.later, ap g.F.Folder.faults w.folder-is);
      }
      | else-len-ge-PIECE w ↦ record {
        sent =
            placed c.args.name.now (concat lines) rest c.push_line.new.line.items c.if-len-ge-PIECE.piece.items before (g.F.Folder.held c.loop-i.folder) (g.F.Folder.held c.if-len-ge-PIECE.folder) c.loop-i.hasher c.if-len-ge-PIECE.hasher
            (ap (λ (v : Vec ℕ). v.items) w.piece-is) (ap g.F.Folder.held w.folder-is) w.hasher-is sent;
        later = omega (arith, c.loop-i.invariant.later, ap g.F.Folder.faults w.folder-is);
      }
    ]

pub returns-in_err-send-2-clause-refused : goal.returns-in_err-send-2-clause-refused
returns-in_err-send-2-clause-refused g c =
    let p = err_from_is_err_and c.from_residual-in_err-send-2.result c.from_residual-in_err-send-2.ensures.1 in
    let lines : List (List ℕ) = restart_lines Second c.args.stage.now.system (progress_of c.args.stage.now) in
    rw p.1 (c.in_err-send-2.ensures.refused (concat lines) [] (g.F.Folder.held c.args.folder.now) (no_more_lines c.args.name.now lines c.loop-i.i c.loop-i.piece.items (g.F.Folder.held c.args.folder.now) (g.F.Folder.held c.loop-i.folder) c.loop-i.hasher (omega (arith, c.loop-i-test.false, c.line_count-i-end.ensures)) c.loop-i.invariant.sent))

pub returns-clause-done : goal.returns-clause-done
returns-clause-done g c =
    let lines : List (List ℕ) = restart_lines Second c.args.stage.now.system (progress_of c.args.stage.now) in
    c.seal.ensures.done (concat lines) (g.F.Folder.held c.args.folder.now)
    (c.in_ok-send-2.ensures.done (concat lines) [] (g.F.Folder.held c.args.folder.now) (no_more_lines c.args.name.now lines c.loop-i.i c.loop-i.piece.items (g.F.Folder.held c.args.folder.now) (g.F.Folder.held c.loop-i.folder) c.loop-i.hasher (omega (arith, c.loop-i-test.false, c.line_count-i-end.ensures)) c.loop-i.invariant.sent))

pub returns-clause-refused : goal.returns-clause-refused
returns-clause-refused g c =
    let lines : List (List ℕ) = restart_lines Second c.args.stage.now.system (progress_of c.args.stage.now) in
    c.seal.ensures.refused (concat lines) (g.F.Folder.held c.args.folder.now)
    (c.in_ok-send-2.ensures.done (concat lines) [] (g.F.Folder.held c.args.folder.now) (no_more_lines c.args.name.now lines c.loop-i.i c.loop-i.piece.items (g.F.Folder.held c.args.folder.now) (g.F.Folder.held c.loop-i.folder) c.loop-i.hasher (omega (arith, c.loop-i-test.false, c.line_count-i-end.ensures)) c.loop-i.invariant.sent))
