-- The bytes so far are taken, and none of them ends a line.
use Rattle.std.proofs.Common.{◌≡◌, ◌≤◌, ℕ, List}
use Rattle.restart_file.specs.Inside.Windows.{IsTextLeft, IsPlain, WereTaken, TellsText}
use Rattle.restart_file.proofs.pulling.next_line.Given as goal

abbrev pub invariant-loop-i : goal.invariant-loop-i
invariant-loop-i g l = record {
  same : g.F.Folder.held l.folder ≡ g.F.Folder.held l.fn.folder;
  later : g.F.Folder.faults l.fn.folder ≤ g.F.Folder.faults l.folder;
  taken : (text rest : List ℕ) → TellsText (g.F.Folder.held l.fn.folder) l.name text → IsTextLeft text l.fn.window rest → WereTaken text rest l.window l.line.items l._i;
  plain : IsPlain l.line.items;
}
