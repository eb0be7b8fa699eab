-- Tables of cells of any kind as texts: the first fault of a text in reading order, or the table that stands there.
use Rattle.std.specs.Prelude.{ℕ, ◌*◌, suc, zero, nat_le, ◌==◌, if◌then◌else◌, List, [], ◌∷◌, length, Option, None, Some, Result, Ok, Err}
use Rattle.int_vector.specs.Vectors.{largest}
use Rattle.mat_files.specs.Words.{Word, words_of, count_value}
use Rattle.mat_files.specs.declared.faults.TextFault.{TextFault}
use Rattle.mat_files.specs.declared.faults.TextFault.TheVariants.{NotNumber, OutOfRange, Early, Extra, TooManyRows, TooManyCols, NoCols}

-- two counts, and the cells row by row
pub record Table (C : Type 0) : Type 0 where
  pub rows : ℕ
  pub cols : ℕ
  pub cells : List C

-- the first fault stands, or the next step is taken
infixl 10 ◌>>=◌
abbrev pub ◌>>=◌ : {A B E : Type 0} → Result A E → (A → Result B E) → Result B E
(Ok x) >>= f = f x
(Err e) >>= f = Err e

-- a word's count, where it is one in range
abbrev pub count_in_range : Word → Option ℕ → Result ℕ TextFault
count_in_range w None = Err (NotNumber w.at)
count_in_range w (Some n) = if nat_le n largest then Ok n else Err (OutOfRange w.at)

abbrev pub count_at : Word → Result ℕ TextFault
count_at w = count_in_range w (count_value w.bytes)

-- the next n cells, which are all that is left of a text of this length; cell_at reads one
abbrev pub cells_at : {C : Type 0} → (Word → Result C TextFault) → ℕ → ℕ → List Word
    → Result (List C) TextFault
cells_at cell_at zero len [] = Ok []
cells_at cell_at zero len (w ∷ ws) = Err (Extra w.at)
cells_at cell_at (suc n) len [] = Err (Early len)
cells_at cell_at (suc n) len (w ∷ ws) = do
  x ← cell_at w
  xs ← cells_at cell_at n len ws
  Ok (x ∷ xs)

-- the next count, and the words behind it
abbrev pub next_count : ℕ → List Word → Result (ℕ × List Word) TextFault
next_count len [] = Err (Early len)
next_count len (w ∷ ws) = do
  n ← count_at w
  Ok (n, ws)

-- a number that is at most the limit
abbrev pub up_to : ℕ → TextFault → ℕ → Result ℕ TextFault
up_to limit fault n = if nat_le n limit then Ok n else Err fault

-- a number that is not zero
abbrev pub not_zero : ℕ → Result ℕ TextFault
not_zero n = if n == 0 then Err NoCols else Ok n

-- the counts of rows and columns within the limits, and the words behind them
abbrev pub counts_at : ℕ → ℕ → ℕ → List Word → Result (ℕ × (ℕ × List Word)) TextFault
counts_at max_rows max_cols len ws = do
  first ← next_count len ws
  rows ← up_to max_rows (TooManyRows first.0) first.0
  second ← next_count len first.1
  some ← up_to max_cols (TooManyCols second.0) second.0
  cols ← not_zero some
  Ok (rows, (cols, second.1))

-- the first fault of a text, or the table that stands there
abbrev pub table_of : {C : Type 0} → (Word → Result C TextFault) → ℕ → ℕ → List ℕ
    → Result (Table C) TextFault
table_of cell_at max_rows max_cols text = do
  counts ← counts_at max_rows max_cols (length text) (words_of text)
  cells ← cells_at cell_at (counts.0 * counts.1.0) (length text) counts.1.1
  Ok (record { rows = counts.0; cols = counts.1.0; cells = cells })
