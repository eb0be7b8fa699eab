-- The matrix of the tables with 3 rows and k columns whose row sums and column sums are 0.
use Rattle.std.specs.Prelude.{◌+◌, ◌*◌, ◌/◌, ◌%◌, ◌==◌, ℕ, ℤ, pos, Bool, if◌then◌else◌, List, ◌++◌, map, None}
use Rattle.std.specs.List.{flat_map, range_with_len}
use Rattle.system_shape.specs.declared.files.Input.{Input}

-- Column c of the matrix is the cell of table row c / k and table column c % k, counted from 0.
abbrev pub mark : Bool → ℤ
mark here = if here then pos 1 else pos 0

-- the sum of table row i, over all 3 k cells
abbrev pub row_sum : ℕ → ℕ → List ℤ
row_sum k i = map (λ c. mark (c / k == i)) (range_with_len 0 (3 * k))

-- the sum of table column j
abbrev pub column_sum : ℕ → ℕ → List ℤ
column_sum k j = map (λ c. mark (c % k == j)) (range_with_len 0 (3 * k))

-- the three row sums, and then the k column sums
abbrev pub table_cells : ℕ → List ℤ
table_cells k =
    flat_map (row_sum k) (range_with_len 0 3) ++ flat_map (column_sum k) (range_with_len 0 k)

-- the matrix alone, with no further file
abbrev pub tables_input : ℕ → Input
tables_input k = record {
  mat = record { rows = 3 + k; cols = 3 * k; cells = table_cells k };
  sign = None;
  rel = None;
  rhs = None;
  cap = None;
}
