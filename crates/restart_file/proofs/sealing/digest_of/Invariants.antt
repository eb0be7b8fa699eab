-- The bytes so far are hashed, and those that are left are in the window.
use Rattle.std.proofs.Common.{◌≡◌, ◌≤◌, ◌-◌, ◌+◌, ℕ, List, length}
use Rattle.restart_file.specs.Inside.Windows.{IsHashed, IsTextLeft, TellsText}
use Rattle.restart_file.proofs.sealing.digest_of.Given as goal

abbrev pub invariant-loop-turn : goal.invariant-loop-turn
invariant-loop-turn g l = record {
  same : g.F.Folder.held l.folder ≡ g.F.Folder.held l.fn.folder;
  later : g.F.Folder.faults l.fn.folder ≤ g.F.Folder.faults l.folder;
  inside : l.left ≤ l.len;
  turns : l._turn + l.left ≤ l.len;
  hashed : (text : List ℕ) → TellsText (g.F.Folder.held l.fn.folder) l.name text → IsTextLeft text l.fn.window text → l.len ≤ length text → IsHashed text l.window l.hasher (l.len - l.left);
}
