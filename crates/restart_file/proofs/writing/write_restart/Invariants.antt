-- What is sent, the piece in hand and the lines that are left are the whole text.
use Rattle.std.proofs.Common.{◌≤◌, ◌++◌, drop}
use Rattle.std.specs.List.{concat}
use Rattle.restart_file.specs.declared.lines.Version.TheVariants.{Second}
use Rattle.restart_file.specs.Texts.{restart_lines, progress_of}
use Rattle.restart_file.specs.Inside.Sending.{IsSent}
use Rattle.restart_file.proofs.writing.write_restart.Given as goal

abbrev pub invariant-loop-i : goal.invariant-loop-i
invariant-loop-i g l = record {
  sent :
      IsSent l.name (concat (restart_lines Second l.stage.system (progress_of l.stage))) (l.piece.items ++ concat (drop l.i (restart_lines Second l.stage.system (progress_of l.stage)))) (g.F.Folder.held l.fn.folder) (g.F.Folder.held l.folder) l.hasher;
  later : g.F.Folder.faults l.fn.folder ≤ g.F.Folder.faults l.folder;
}
