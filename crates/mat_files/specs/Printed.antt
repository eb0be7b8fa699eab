-- How a whole matrix is written.
use Rattle.std.specs.Prelude.{ℕ, suc, zero, List, [], ◌++◌, take, drop, ℤ}
use Rattle.mat_files.specs.Cells.{Matrix}
use Rattle.mat_files.specs.Texts.{line_of, head_of}

-- the lines of so many rows
abbrev pub lines_of : ℕ → ℕ → List ℤ → List ℕ
lines_of zero cols cells = []
lines_of (suc rows) cols cells = line_of (take cols cells) ++ lines_of rows cols (drop cols cells)

-- the line of the counts, and a line for each row
abbrev pub text_of : Matrix → List ℕ
text_of m = head_of m.rows m.cols ++ lines_of m.rows m.cols m.cells
