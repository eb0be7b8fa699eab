-- The draft is what the lines so far say, and it is sound.
use Rattle.std.proofs.Common.{◌≡◌, ◌≤◌, ◌+◌, ℕ, List, length}
use Rattle.restart_file.specs.Inside.Drafts.{HasWidths, IsTrueSoFar, cursor_of}
use Rattle.restart_file.specs.Inside.Ways.{IsOnTheWay}
use Rattle.restart_file.specs.Inside.Windows.{TellsText}
use Rattle.restart_file.proofs.reading.read_lines.Given as goal

abbrev pub invariant-loop-turn : goal.invariant-loop-turn
invariant-loop-turn g l = record {
  same : g.F.Folder.held l.folder ≡ g.F.Folder.held l.fn.folder;
  later : g.F.Folder.faults l.fn.folder ≤ g.F.Folder.faults l.folder;
  sound : IsTrueSoFar l.system (cursor_of l.draft);
  widths : HasWidths l.system l.draft;
  number : l.l ≤ l._turn + 1;
  way : (text : List ℕ) → TellsText (g.F.Folder.held l.fn.folder) l.name text → l.size ≡ length text → IsOnTheWay l.system text l.window (cursor_of l.draft) l.l l._turn;
}
