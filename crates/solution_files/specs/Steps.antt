-- The steps from the finished rows to the selected ones.
use Rattle.std.specs.Prelude.{◌≡◌, ◌&&◌, ℕ, ℤ, pos, List, Bool, true, not, map, length, take}
use Rattle.std.specs.List.{AllByRecursion, filter, list_any}
use Rattle.std.specs.Ordering.{int_eq}
use Rattle.std.specs.Cmp.Lexicographic.{pointwise}
use Rattle.int_vector.specs.Range.{InRange}
use Rattle.lift_core.specs.Stages.{last}
use Rattle.int_vector.specs.Vectors.{leads_negative, negated}
use Rattle.lift_core.specs.Columns.{SolutionKind, Homogeneous, Inhomogeneous, Every}

-- whether the last entry is that of the kind
abbrev pub is_of_kind : SolutionKind → List ℤ → Bool
is_of_kind Homogeneous v = int_eq (last v) (pos 0)
is_of_kind Inhomogeneous v = int_eq (last v) (pos 1)
is_of_kind Every v = true

-- the first n entries of each row of the kind
abbrev pub projected : ℕ → SolutionKind → List (List ℤ) → List (List ℤ)
projected n kind rows = map (take n) (filter (is_of_kind kind) rows)

-- each row has n entries, all in range
abbrev pub AreRows : ℕ → List (List ℤ) → Type 0
AreRows n rows = AllByRecursion (λ row. (length row ≡ n) × AllByRecursion InRange row) rows

-- whether a row is among the rows
abbrev pub is_among : List (List ℤ) → List ℤ → Bool
is_among rows x = list_any (λ row. pointwise int_eq row x) rows

-- whether a row leads negative and its negative is among the rows
abbrev pub is_left_out : List (List ℤ) → List ℤ → Bool
is_left_out rows x = leads_negative x && is_among rows (negated x)

-- the rows but those
abbrev pub without_negatives : List (List ℤ) → List (List ℤ)
without_negatives rows = filter (λ x. not (is_left_out rows x)) rows
