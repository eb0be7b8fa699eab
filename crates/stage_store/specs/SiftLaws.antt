-- The laws of the sift: rows that make no irreducible sum, over the definitions alone.
use Rattle.std.specs.Prelude.{◌↔◌, ℕ, ◌+◌, ◌<◌, ◌≤◌, Bool, List, ℤ, pos, nat_abs, length, slice_index_or, None}
use Rattle.std.specs.List.{Contains}
use Rattle.int_vector.specs.Vectors.{negated}
use Rattle.lift_core.specs.Systems.{LinearSystem}
use Rattle.lift_core.specs.Stages.{last}
use Rattle.lift_core.specs.Halves.{IsReducible}
use Rattle.stage_store.specs.Levels.{MakesNone, BarsAt, IsAgainst, IsFull, IsNear, IsOnSide}
use Rattle.stage_store.specs.Found.{IsSumOf}
use Rattle.stage_store.specs.Mirror.{HasNegatives}
use Rattle.stage_store.specs.Reaches.{with_reach}
use Rattle.stage_store.specs.Signs.{IsSigned}

-- entries with opposite signs in a column but the last: the rows are not conformal
abbrev pub ClashMakesNone : Type 0
ClashMakesNone =
    (S : LinearSystem) (listed : List (List ℤ)) (f g : List ℤ) (column : ℕ) (positive : Bool)
    → column + 1 < length f
    → IsAgainst positive (slice_index_or f column (pos 0))
    → IsSigned positive (slice_index_or g column (pos 0))
    → MakesNone S listed f g

-- an entry that is at its cap, and one more of its sign: the sum is above the cap
abbrev pub CapMakesNone : Type 0
CapMakesNone =
    (S : LinearSystem) (listed : List (List ℤ)) (f g : List ℤ) (column : ℕ) (positive : Bool)
    → column + 1 < length f
    → IsFull (slice_index_or S.caps column None) (slice_index_or f column (pos 0))
    → IsOnSide positive (slice_index_or f column (pos 0))
    → IsSigned positive (slice_index_or g column (pos 0))
    → MakesNone S listed f g

-- a listed row with last entry 0 is below f with an amount more in a column, and the partner has that amount there: the
-- listed row is below the sum
abbrev pub NearBars : Type 0
NearBars =
    (S : LinearSystem) (listed : List (List ℤ)) (f : List ℤ) (column : ℕ) (positive : Bool)
    (level : ℕ) → column + 1 < length f → IsNear listed f column positive level
    → BarsAt S listed f column positive level

-- a listed row is below f but for its last entry, of size r and with the sign against f's, and the partner's last entry
-- has that sign too and is larger than f's by r or more: the listed row is below the sum
abbrev pub FarMakesNone : Type 0
FarMakesNone =
    (S : LinearSystem) (listed : List (List ℤ)) (f g : List ℤ) (r : ℕ) (positive : Bool)
    → IsAgainst positive (last f) → IsSigned positive (last g)
    → nat_abs (last f) + r ≤ nat_abs (last g)
    → IsReducible listed (with_reach f r)
    → MakesNone S listed f g

-- more rows are listed
abbrev pub NoneStays : Type 0
NoneStays =
    (S : LinearSystem) (listed more : List (List ℤ)) (f g : List ℤ)
    → ((u : List ℤ) → Contains listed u → Contains more u)
    → MakesNone S listed f g → MakesNone S more f g

-- ---- negatives
-- the irreducible sums of the negatives of two rows are the negatives of those of the rows
abbrev pub NegativesHaveSums : Type 0
NegativesHaveSums =
    (S : LinearSystem) (listed : List (List ℤ)) (f g z : List ℤ) → HasNegatives listed
    → IsSumOf S listed f g z ↔ IsSumOf S listed (negated f) (negated g) (negated z)

-- f and g make none exactly where -g and -f make none
abbrev pub NegativesMakeNone : Type 0
NegativesMakeNone =
    (S : LinearSystem) (listed : List (List ℤ)) (f g : List ℤ) → HasNegatives listed
    → MakesNone S listed f g ↔ MakesNone S listed (negated g) (negated f)
