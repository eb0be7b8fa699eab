use Rattle.std.proofs.Common.{◌≡◌, ◌-◌}
use Rattle.mat_files.specs.Tables.{cells_at}
use Rattle.mat_files.proofs.CellByCell.{with_front}
use Rattle.mat_files.proofs.tables.read_cells.Given as goal

-- the cells so far and what is left give what all gives
abbrev pub invariant-loop-place : goal.invariant-loop-place
invariant-loop-place g l = with_front l.cells.items (cells_at g.C.Cell.cell_at (l.count - l._place) l.len l.words) ≡ cells_at g.C.Cell.cell_at l.count l.len l.fn.words
