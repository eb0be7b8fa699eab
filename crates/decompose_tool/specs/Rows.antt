-- The rows of the files as solutions: which are taken, the first that is not, the candidates, and
-- the wanted lists.
use Rattle.std.specs.Prelude.{◌≡◌, ◌⊎◌, ◌≤◌, ◌<◌, ◌-◌, ℕ, zero, suc, List, [], ◌∷◌, ◌++◌, ℤ, pos, negsuc, length, take, if◌then◌else◌, Bool, true, false, Option, None, Some, slice_index_or}
use Rattle.std.specs.List.{AllByRecursion}
use Rattle.int_vector.specs.Vectors.{largest, norm, negated}
use Rattle.mat_files.specs.Cells.{Matrix}
use Rattle.lift_core.specs.declared.Tool.{Tool}
use Rattle.lift_core.specs.declared.Tool.TheVariants.{Graver, Hilbert, Zsolve}
use Rattle.lift_core.specs.Columns.{Homogeneous, Inhomogeneous, Every}
use Rattle.system_shape.specs.Problem.{UserSystem, full_vector, IsUserSolution, IsWantedForUser, IsWantedGraverForUser}
use Rattle.system_files.specs.Kernel.{rows_in}
use Rattle.decompose_tool.specs.declared.ends.DecFile.{DecFile}
use Rattle.decompose_tool.specs.declared.ends.DecFile.TheVariants.{Zhom, Sol}
use Rattle.decompose_tool.specs.declared.ends.RowFault.{RowFault}
use Rattle.decompose_tool.specs.declared.ends.RowFault.TheVariants.{Range, NotSolution}
use Rattle.decompose_tool.specs.declared.reading.Sets.{Sets}
use Rattle.decompose_tool.specs.Sets.{first_file}

-- ---- the rows of the files
-- the multiple of the right sides for which the rows of the first file, and the point, are
-- solutions
abbrev pub times_of : Tool → ℤ
times_of Graver = pos 0
times_of Hilbert = pos 0
times_of Zsolve = pos 1

-- a file's rows, with the multiple of the right sides for which they are solutions
pub record Part : Type 0 where
  pub file : DecFile
  pub times : ℤ
  pub rows : List (List ℤ)

abbrev pub second_part : Option Matrix → List Part
second_part None = []
second_part (Some m) = record { file = Zhom; times = pos 0; rows = rows_in m } ∷ []

-- the files of the set, in reading order
abbrev pub set_parts : Tool → Sets → List Part
set_parts tool sets = record {
  file = first_file tool;
  times = times_of tool;
  rows = rows_in sets.first;
} ∷ second_part sets.second

-- and the point
abbrev pub all_parts : Tool → Sets → List Part
all_parts tool sets = set_parts tool sets ++ (record {
  file = Sol;
  times = times_of tool;
  rows = rows_in sets.point;
} ∷ [])

-- the point itself
abbrev pub point_of : Sets → List ℤ
point_of sets = slice_index_or (rows_in sets.point) 0 []

-- ---- which rows are taken
-- a solution whose norm is in range, and that of its full vector too
pub record IsSoundRow (U : UserSystem) (c : ℤ) (x : List ℤ) : Type 0 where
  pub small : norm x ≤ largest
  pub solution : IsUserSolution U c x
  pub full : norm (full_vector U c x) ≤ largest

-- what is wrong with a row
abbrev pub HasFaultInRow : UserSystem → ℤ → List ℤ → RowFault → Type 0
HasFaultInRow U c x Range =
    (largest < norm x) ⊎ (IsUserSolution U c x × (largest < norm (full_vector U c x)))
HasFaultInRow U c x NotSolution = (norm x ≤ largest) × (IsUserSolution U c x → ⊥)

-- row i, counted from 1, is the first that is not taken, and this is wrong with it
pub record IsFirstUnsound (U : UserSystem) (c : ℤ) (rows : List (List ℤ)) (i : ℕ) (fault : RowFault)
    : Type 0 where
  pub some : 1 ≤ i
  pub there : i ≤ length rows
  pub before : AllByRecursion (IsSoundRow U c) (take (i - 1) rows)
  pub wrong : HasFaultInRow U c (slice_index_or rows (i - 1) []) fault

abbrev pub AreSound : UserSystem → Part → Type 0
AreSound U p = AllByRecursion (IsSoundRow U p.times) p.rows

-- in the first of the files that has one
abbrev pub IsFirstFault : UserSystem → List Part → DecFile → ℕ → RowFault → Type 0
IsFirstFault U [] f i fault = ⊥
IsFirstFault U (p ∷ parts) f i fault =
    ((f ≡ p.file) × IsFirstUnsound U p.times p.rows i fault) ⊎ (AreSound U p × IsFirstFault U parts
    f i fault)

-- ---- the candidates
-- whether each entry is 0
abbrev pub is_zero : List ℤ → Bool
is_zero [] = true
is_zero (pos zero ∷ v) = is_zero v
is_zero (pos (suc a) ∷ v) = false
is_zero (negsuc a ∷ v) = false

-- the vector alone, unless it is zero
abbrev pub unless_zero : List ℤ → List (List ℤ)
unless_zero v = if is_zero v then [] else v ∷ []

-- the candidates of a row: its full vector, and for graver that of its negative where that is a
-- solution too
abbrev pub AreOfRow : Tool → UserSystem → ℤ → List ℤ → List (List ℤ) → Type 0
AreOfRow Graver U c x us =
    (IsUserSolution U c (negated x)
    × (us ≡ unless_zero (full_vector U c x) ++ unless_zero (full_vector U c (negated x))))
    ⊎ ((IsUserSolution U c (negated x) → ⊥) × (us ≡ unless_zero (full_vector U c x)))
AreOfRow Hilbert U c x us = us ≡ unless_zero (full_vector U c x)
AreOfRow Zsolve U c x us = us ≡ unless_zero (full_vector U c x)

-- those of the rows, one row after another
abbrev pub AreOfRows : Tool → UserSystem → ℤ → List (List ℤ) → List (List ℤ) → Type 0
AreOfRows tool U c [] us = us ≡ []
AreOfRows tool U c (x ∷ rows) us =
    (first : List (List ℤ)) × (others : List (List ℤ)) × AreOfRow tool U c x first
    × AreOfRows tool U c rows others × (us ≡ first ++ others)

-- and of the files, one file after another
abbrev pub AreCandidates : Tool → UserSystem → List Part → List (List ℤ) → Type 0
AreCandidates tool U [] us = us ≡ []
AreCandidates tool U (p ∷ parts) us =
    (first : List (List ℤ)) × (others : List (List ℤ)) × AreOfRows tool U p.times p.rows first
    × AreCandidates tool U parts others × (us ≡ first ++ others)

-- ---- the wanted lists
abbrev pub HoldsHomogeneous : UserSystem → Option Matrix → Type 0
HoldsHomogeneous U None = ⊥
HoldsHomogeneous U (Some m) = IsWantedForUser U Homogeneous (rows_in m)

-- the set files hold what the tool writes
abbrev pub HoldWanted : Tool → UserSystem → Sets → Type 0
HoldWanted Graver U sets = IsWantedGraverForUser U (rows_in sets.first)
HoldWanted Hilbert U sets = IsWantedForUser U Every (rows_in sets.first)
HoldWanted Zsolve U sets =
    IsWantedForUser U Inhomogeneous (rows_in sets.first) × HoldsHomogeneous U sets.second
