use Rattle.std.proofs.Common.{◌≡◌, ◌++◌, ◌-◌, ◌*◌, length}
use Rattle.mat_files.specs.Printed.{lines_of}
use Rattle.mat_files.proofs.printing.push_lines.Given as goal

abbrev pub invariant-loop-row : goal.invariant-loop-row
invariant-loop-row l = record {
  whole : l.text.items ++ lines_of (l.rows - l._row) l.cols l.rest ≡ l.fn.text.items ++ lines_of l.rows l.cols l.cells;
  left : length l.rest ≡ (l.rows - l._row) * l.cols;
}
