-- The cells so far and those that are left make the line.
use Rattle.std.proofs.Common.{◌≡◌, ◌++◌, length, take}
use Rattle.mat_files.specs.Texts.{joined_cells}
use Rattle.mat_files.proofs.printing.push_cells.Given as goal

abbrev pub invariant-loop-rest : goal.invariant-loop-rest
invariant-loop-rest l = record {
  whole : l.line.items ++ joined_cells l.rest ≡ l.fn.line.items ++ joined_cells l.cells;
  grows : take (length l.fn.line.items) l.line.items ≡ l.fn.line.items;
}

abbrev pub decreases-loop-rest : goal.decreases-loop-rest
decreases-loop-rest l = length l.rest
