-- The lines so far are written, and the cells that are left are those of the lines to come.
use Rattle.std.proofs.Common.{◌≡◌, ◌≤◌, ◌-◌, ◌*◌, ℕ, List, Option, length}
use Rattle.outside.specs.Files.{Files}
use Rattle.mat_files.specs.Printed.{lines_of}
use Rattle.outside.specs.Inside.Writing.{IsPartWritten}
use Rattle.solution_files.proofs.output.append_rows.Given as goal

abbrev pub invariant-loop-row : goal.invariant-loop-row
invariant-loop-row g l = record {
  held : (text : List ℕ) (before : Option Files) → IsPartWritten l.name text (lines_of l.grid.rows l.grid.cols l.grid.cells) before (g.F.Folder.held l.fn.folder) → IsPartWritten l.name text (lines_of (l.grid.rows - l._row) l.grid.cols l.rest) before (g.F.Folder.held l.folder);
  cells : length l.rest ≡ (l.grid.rows - l._row) * l.grid.cols;
  later : g.F.Folder.faults l.fn.folder ≤ g.F.Folder.faults l.folder;
}
