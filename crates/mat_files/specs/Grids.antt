-- What is true of the tables that are read, and how a table is told from another.
use Rattle.std.specs.Prelude.{◌≡◌, ℕ, ◌*◌, ◌≤◌, ℤ, List, length, Option, refl}
use Rattle.std.specs.List.{AllByRecursion}
use Rattle.std.specs.Coded.{Coded, code_by, coded×, coded_ℕ, coded_ℤ, coded_list}
use Rattle.int_vector.specs.Range.{InRange, IsCap}
use Rattle.mat_files.specs.Tables.{Table}
use Rattle.mat_files.specs.Cells.{Matrix}
use Rattle.mat_files.specs.declared.relations.Rel.{Rel}

-- there are rows times cols cells, each in range, and a column
pub record IsMatrix (rows cols : ℕ) (cells : List ℤ) : Type 0 where
  pub count : length cells ≡ rows * cols
  pub wide : 1 ≤ cols
  pub small : AllByRecursion InRange cells

-- there are rows times cols cells, and a column
pub record AreRelations (rows cols : ℕ) (cells : List Rel) : Type 0 where
  pub count : length cells ≡ rows * cols
  pub wide : 1 ≤ cols

-- there are rows times cols cells, each in range, and a column
pub record AreCapCells (rows cols : ℕ) (cells : List (Option ℕ)) : Type 0 where
  pub count : length cells ≡ rows * cols
  pub wide : 1 ≤ cols
  pub small : AllByRecursion IsCap cells

-- a table is its counts and its cells
abbrev pub table_code : {C : Type 0} → Coded C → Coded (Table C)
table_code {C} cell_code =
    code_by (ℕ × (ℕ × List C)) (coded× coded_ℕ (coded× coded_ℕ (coded_list cell_code)))
    (λ t. (t.rows, (t.cols, t.cells))) (λ p. record { rows = p.0; cols = p.1.0; cells = p.1.1 })
    (λ _. refl)

abbrev pub matrix_code : Coded Matrix
matrix_code = table_code coded_ℤ
