-- Which texts spell a table, said without a reader.
use Rattle.std.specs.Prelude.{◌≡◌, ◌≤◌, ◌*◌, ⊤, ℕ, List, ◌∷◌, length, map, Option, Some, Ok}
use Rattle.std.specs.List.{AllByRecursion}
use Rattle.int_vector.specs.Range.{IsCap, InRange}
use Rattle.mat_files.specs.Words.{Word, words_of, number_value, count_value}
use Rattle.mat_files.specs.Tables.{Table}
use Rattle.mat_files.specs.Cells.{Matrix, matrix_of, Relations, relation_value, CapTable, cap_value}

-- The words are the count of rows, the count of columns and the cells row by row, and nothing else.
pub record IsTableText {C : Type 0} (value : List ℕ → Option C) (text : List ℕ)
    (t : Table C) : Type 0 where
  pub rows_word : Word
  pub cols_word : Word
  pub cell_words : List Word
  pub words : words_of text ≡ rows_word ∷ cols_word ∷ cell_words
  pub rows : count_value rows_word.bytes ≡ Some t.rows
  pub cols : count_value cols_word.bytes ≡ Some t.cols
  pub cells : map (λ w. value w.bytes) cell_words ≡ map Some t.cells
  pub count : length t.cells ≡ t.rows * t.cols

-- the counts are within the limits, there is a column, and each cell may stand in a table
pub record IsTableWithin {C : Type 0} (IsAllowed : C → Type 0) (max_rows max_cols : ℕ)
    (t : Table C) : Type 0 where
  pub rows : t.rows ≤ max_rows
  pub cols : t.cols ≤ max_cols
  pub wide : 1 ≤ t.cols
  pub allowed : AllByRecursion IsAllowed t.cells

-- the text of a matrix
abbrev pub IsTextOf : List ℕ → Matrix → Type 0
IsTextOf text m = IsTableText number_value text m

-- a matrix within the limits, each number in range
abbrev pub IsMatrixWithin : ℕ → ℕ → Matrix → Type 0
IsMatrixWithin max_rows max_cols m = IsTableWithin InRange max_rows max_cols m

-- within any limits that the matrix keeps, the text is read as this matrix
abbrev pub ReadsAs : List ℕ → Matrix → Type 0
ReadsAs text m =
    (max_rows max_cols : ℕ) → m.rows ≤ max_rows → m.cols ≤ max_cols
    → matrix_of max_rows max_cols text ≡ Ok m

-- the text of a matrix of relations
abbrev pub IsRelTextOf : List ℕ → Relations → Type 0
IsRelTextOf text m = IsTableText relation_value text m

-- a matrix of relations within the limits; each relation may stand there
abbrev pub IsRelWithin : ℕ → ℕ → Relations → Type 0
IsRelWithin max_rows max_cols m = IsTableWithin (λ _. ⊤) max_rows max_cols m

-- the text of a matrix of caps
abbrev pub IsCapTextOf : List ℕ → CapTable → Type 0
IsCapTextOf text m = IsTableText cap_value text m

-- a matrix of caps within the limits, each cap in range
abbrev pub IsCapWithin : ℕ → ℕ → CapTable → Type 0
IsCapWithin max_rows max_cols m = IsTableWithin IsCap max_rows max_cols m
