-- Systems of homogeneous equations over columns with signs and caps, their solutions, and the minimal ones.
use Rattle.std.specs.Prelude.{◌≡◌, ℕ, ◌-◌, List, [], ℤ, pos, take, Option, slice_index_or}
use Rattle.std.specs.List.{AllZip, AllByRecursion}
use Rattle.int_vector.specs.Vectors.{dot, ◌⊑◌, IsZero}
use Rattle.lift_core.specs.Columns.{HasSign, IsCapped}
use Rattle.lift_core.specs.declared.Tool.{Tool}

-- a homogeneous system: the sign and the cap of each column, and the coefficients of each equation
pub record LinearSystem : Type 0 where
  pub signs : List ℤ
  pub caps : List (Option ℕ)
  pub rows : List (List ℤ)

-- a linear system with the tool that it is for and the number of the user's columns
pub record ToolSystem : Type 0 where
  pub tool : Tool
  pub n : ℕ
  pub equations : LinearSystem

-- row k, numbered from 1
abbrev pub row : LinearSystem → ℕ → List ℤ
row S k = slice_index_or S.rows (k - 1) []

abbrev pub ObeysSigns : LinearSystem → List ℤ → Type 0
ObeysSigns S v = AllZip HasSign S.signs v

abbrev pub ObeysCaps : LinearSystem → List ℤ → Type 0
ObeysCaps S v = AllZip IsCapped S.caps v

-- v obeys signs and caps, and each of the rows 1 to k times v is 0
pub record Solves (S : LinearSystem) (k : ℕ) (v : List ℤ) : Type 0 where
  pub signs : ObeysSigns S v
  pub caps : ObeysCaps S v
  pub rows : AllByRecursion (λ r. dot r v ≡ pos 0) (take k S.rows)

-- v is in the set, is not zero, and each nonzero vector of the set that is below v is v
pub record IsMinimal (P : List ℤ → Type 0) (v : List ℤ) : Type 0 where
  pub member : P v
  pub nonzero : ¬ IsZero v
  pub least : (w : List ℤ) → P w → ¬ IsZero w → w ⊑ v → w ≡ v

-- a vector that is minimal among the solutions of the first k rows
abbrev pub IsMinimalSolution : LinearSystem → ℕ → List ℤ → Type 0
IsMinimalSolution S k = IsMinimal (Solves S k)
