-- What a row says of the eight levels of an item, which is a column with a sign: the amounts 1, 2, 4 to 128 that its
-- entry reaches, and those of a partner's entry that bar a new sum.
use Rattle.std.specs.Prelude.{◌≡◌, ℕ, ◌*◌, ◌/◌, ◌%◌, ◌<◌, ◌≤◌, ◌^◌, Bool, true, false, ℤ, pos, ◌+ℤ◌, ◌<ℤ◌, ◌≤ℤ◌, nat_abs, List, length, slice_index_or, slice_set, Option, Some, None, ◌==◌}
use Rattle.lift_core.specs.Systems.{LinearSystem}
use Rattle.int_vector.specs.Vectors.{IsWithin}
use Rattle.lift_core.specs.Halves.{IsReducible}
use Rattle.stage_store.specs.Found.{IsSumOf}
use Rattle.stage_store.specs.Signs.{IsSigned}
use Rattle.stage_store.specs.Reaches.{with_reach}
use Rattle.stage_store.specs.Lines.{IsSaid}

-- the entry has the sign, and at least the amount of the level
pub record ReachesAt (v : List ℤ) (column : ℕ) (positive : Bool) (level : ℕ) : Type 0 where
  pub signed : IsSigned positive (slice_index_or v column (pos 0))
  pub amount : 2 ^ level ≤ nat_abs (slice_index_or v column (pos 0))

-- f and g make no irreducible sum
pub record MakesNone (S : LinearSystem) (listed : List (List ℤ)) (f g : List ℤ) : Type 0 where
  pub as_first : (z : List ℤ) → IsSumOf S listed f g z → ⊥
  pub as_second : (z : List ℤ) → IsSumOf S listed g f z → ⊥

-- f makes no irreducible sum with a row that reaches the level
abbrev pub BarsAt : LinearSystem → List (List ℤ) → List ℤ → ℕ → Bool → ℕ → Type 0
BarsAt S listed f column positive level =
    (g : List ℤ) → length g ≡ length f → ReachesAt g column positive level → MakesNone S listed f g

-- the items are numbered: column k / 2, above 0 for even k and below 0 for odd k
abbrev pub is_plus : ℕ → Bool
is_plus k = (k % 2) == 0

-- the same for line m, of level m % 8 of item m / 8
abbrev pub BarsLine : LinearSystem → List (List ℤ) → List ℤ → ℕ → Type 0
BarsLine S listed f m = BarsAt S listed f (m / 8 / 2) (is_plus (m / 8)) (m % 8)

abbrev pub ReachesLine : List ℤ → ℕ → Type 0
ReachesLine f m = ReachesAt f (m / 8 / 2) (is_plus (m / 8)) (m % 8)

-- what the levels say is true of the row
abbrev pub AreTrue : (ℕ → Type 0) → Bool → List ℕ → Type 0
AreTrue P upper levels = (m : ℕ) → m < 8 * length levels → IsSaid upper levels m → P m

-- the same for the first n items
abbrev pub AreTrueTo : ℕ → (ℕ → Type 0) → Bool → List ℕ → Type 0
AreTrueTo n P upper levels = (m : ℕ) → m < 8 * n → IsSaid upper levels m → P m

-- ---- rows near another
-- 0 or on the side of the sign
abbrev pub IsOnSide : Bool → ℤ → Type 0
IsOnSide true x = pos 0 ≤ℤ x
IsOnSide false x = x ≤ℤ pos 0

-- of the other sign
abbrev pub IsAgainst : Bool → ℤ → Type 0
IsAgainst true x = x <ℤ pos 0
IsAgainst false x = pos 0 <ℤ x

-- the absolute value is the cap or more
abbrev pub IsFull : Option ℕ → ℤ → Type 0
IsFull None x = ⊥
IsFull (Some c) x = c ≤ nat_abs x

-- y is no larger than the sum of x and any number of the sign that has the amount
abbrev pub IsRaised : Bool → ℕ → ℤ → ℤ → Type 0
IsRaised positive level x y =
    (a : ℤ) → IsSigned positive a → 2 ^ level ≤ nat_abs a → IsWithin y (x +ℤ a)

-- a listed row is below the row with last entry 0 and the amount more
pub record IsNear (listed : List (List ℤ)) (f : List ℤ) (column : ℕ) (positive : Bool)
    (level : ℕ) : Type 0 where
  pub entry : ℤ
  pub raised : IsRaised positive level (slice_index_or f column (pos 0)) entry
  pub reduced : IsReducible listed (slice_set (with_reach f 0) column entry)

-- where it is one of the levels, it is near
abbrev pub IsNearOr : List (List ℤ) → List ℤ → ℕ → Bool → ℕ → Type 0
IsNearOr listed f column positive level = level < 8 → IsNear listed f column positive level

-- the levels from one on are barred
abbrev pub IsBarLevel : LinearSystem → List (List ℤ) → List ℤ → ℕ → Bool → ℕ → Type 0
IsBarLevel S listed f column positive level =
    (l : ℕ) → l < 8 → level ≤ l → BarsAt S listed f column positive l

-- the levels before one are reached
abbrev pub IsReachLevel : List ℤ → ℕ → Bool → ℕ → Type 0
IsReachLevel f column positive level = (l : ℕ) → l < level → ReachesAt f column positive l
