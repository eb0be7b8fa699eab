-- The rows of a matrix, and which vectors are in its kernel.
use Rattle.std.specs.Prelude.{◌≡◌, ◌≤◌, ◌-◌, ℕ, List, [], ℤ, pos, length, take, Option, None, Some, slice_index_or}
use Rattle.std.specs.List.{AllByRecursion}
use Rattle.int_vector.specs.Vectors.{norm, dot}
use Rattle.mat_files.specs.Cells.{Matrix}
use Rattle.lift_core.specs.Lists.{cut_rows}

abbrev pub rows_in : Matrix → List (List ℤ)
rows_in m = cut_rows m.rows m.cols m.cells

-- the product with each row is 0
abbrev pub IsInKernel : List (List ℤ) → List ℤ → Type 0
IsInKernel rows v = AllByRecursion (λ r. dot r v ≡ pos 0) rows

-- a vector of n entries in the kernel
pub record IsKernelVector (n : ℕ) (rows : List (List ℤ)) (v : List ℤ) : Type 0 where
  pub columns : length v ≡ n
  pub kernel : IsInKernel rows v

-- in the kernel, and the norm is at most 2^63-1
pub record IsKernelRow (rows : List (List ℤ)) (v : List ℤ) : Type 0 where
  pub small : norm v ≤ 9223372036854775807
  pub kernel : IsInKernel rows v

-- row i, counted from 1, is the first that is no such row
pub record IsFirstOutside (rows set : List (List ℤ)) (i : ℕ) : Type 0 where
  pub some : 1 ≤ i
  pub there : i ≤ length set
  pub before : AllByRecursion (IsKernelRow rows) (take (i - 1) set)
  pub outside : IsKernelRow rows (slice_index_or set (i - 1) []) → ⊥

-- each is such a row, or that is the first that is not
abbrev pub FirstOutside : List (List ℤ) → List (List ℤ) → Option ℕ → Type 0
FirstOutside rows set None = AllByRecursion (IsKernelRow rows) set
FirstOutside rows set (Some i) = IsFirstOutside rows set i
