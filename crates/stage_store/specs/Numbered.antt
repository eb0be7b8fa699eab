-- The pairs of a norm by their numbers, and the irreducible sums of a range of them.
use Rattle.std.specs.Prelude.{◌≡◌, ◌↔◌, ◌⊎◌, ℕ, ◌<◌, ◌≤◌, List, [], ℤ, length, slice_index_or}
use Rattle.std.specs.List.{Contains}
use Rattle.stage_store.specs.Stage.{StageValue}
use Rattle.stage_store.specs.Classes.{pairs_of, row_at}
use Rattle.stage_store.specs.Found.{IsSumOf}

-- the pair of norm e with the number p
abbrev pub pair_at : StageValue → ℕ → ℕ → List ℤ × List ℤ
pair_at s e p = slice_index_or (pairs_of s.listed e) p ([], [])

-- z is the irreducible sum of a pair with a number from one on and below another
pub record IsSumNumbered (s : StageValue) (e from to : ℕ) (z : List ℤ) : Type 0 where
  pub number : ℕ
  pub at_least : from ≤ number
  pub below : number < to
  pub sum : IsSumOf s.system.equations s.listed (pair_at s e number).0 (pair_at s e number).1 z

-- besides what was there, the irreducible sums of the pairs with these numbers are there
abbrev pub GainsNumbered : StageValue → ℕ → ℕ → ℕ → List (List ℤ) → List (List ℤ) → Type 0
GainsNumbered s e from to old new =
    (z : List ℤ) → Contains new z ↔ (Contains old z ⊎ IsSumNumbered s e from to z)

-- no pair with a number from one on and below another has an irreducible sum
abbrev pub HasNoneBetween : StageValue → ℕ → ℕ → ℕ → Type 0
HasNoneBetween s e from to = (z : List ℤ) → IsSumNumbered s e from to z → ⊥

-- the pair with the number p, whose first row is at place i, is the first one from `from` on that may
-- have an irreducible sum
pub record IsNextPair (s : StageValue) (e from p i : ℕ) : Type 0 where
  pub at_least : from ≤ p
  pub below : p < length (pairs_of s.listed e)
  pub none : HasNoneBetween s e from p
  pub inside : i < length s.listed
  pub first_is : (pair_at s e p).0 ≡ row_at s.listed i
