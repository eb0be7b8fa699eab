-- The files are the same, no fault was taken back, and what was read is a front of the file, no longer than was told
-- and after each turn longer.
use Rattle.std.proofs.Common.{◌≡◌, ◌≤◌, length, IfSome}
use Rattle.outside.specs.Files.{bytes_of}
use Rattle.outside.proofs.ReadPieces.{IsFront}
use Rattle.outside.proofs.reading.read_bytes.Given as goal

abbrev pub invariant-loop-turn : goal.invariant-loop-turn
invariant-loop-turn g l = record {
  same : g.F.Folder.held l.folder ≡ g.F.Folder.held l.fn.folder;
  later : g.F.Folder.faults l.fn.folder ≤ g.F.Folder.faults l.folder;
  within : length l.bytes.items ≤ l.len;
  front : IfSome (g.F.Folder.held l.fn.folder) (λ files. IsFront (bytes_of files l.name) l.bytes.items l._turn);
}
