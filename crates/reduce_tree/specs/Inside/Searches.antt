-- The search down the tiers: from a branch, through the classes that z has, to the buckets beneath.
use Rattle.std.specs.Prelude.{◌≡◌, ◌⊎◌, ℕ, ◌<◌, ℤ, List, length}
use Rattle.std.specs.Int.{bit_at}
use Rattle.std.specs.List.{AllByRecursion}
use Rattle.reduce_tree.specs.declared.bounds.Bounds.{Bounds}
use Rattle.reduce_tree.specs.declared.index.Index.{Index}
use Rattle.reduce_tree.specs.Inside.Buckets.{IsMarked, AreNoneBelow, IsBelowAt}
use Rattle.reduce_tree.specs.Inside.Filing.{bucket_at, bucket_count}
use Rattle.reduce_tree.specs.Inside.Tiers.{BranchValue, HasKidAt, kid_at}

abbrev pub AreAllMarked : Index → List (List ℤ) → List ℤ → Bounds → Type 0
AreAllMarked index rows z bounds =
    (b : ℕ) → AllByRecursion (IsMarked rows z bounds) (bucket_at index b)

-- a fact on numbers holds of the kids of a branch whose classes are among some
abbrev pub AllKids : List BranchValue → ℕ → (ℕ → Type 0) → ℕ → Type 0
AllKids tier classes P n = (c : ℕ) → bit_at classes c ≡ 1 → HasKidAt tier n c → P (kid_at tier n c)

-- no row of bucket b is below z
abbrev pub HasNoneIn : Index → List (List ℤ) → List ℤ → Bounds → ℕ → Type 0
HasNoneIn index rows z bounds b =
    AreNoneBelow (bucket_at index b) rows z bounds (length (bucket_at index b))

-- no row of a bucket that the classes of z lead to from a branch of the third, second or first tier
-- is below z
abbrev pub HasNoneUnderThird : Index → List (List ℤ) → List ℤ → Bounds → ℕ → Type 0
HasNoneUnderThird index rows z bounds =
    AllKids index.third bounds.classes (HasNoneIn index rows z bounds)

abbrev pub HasNoneUnderSecond : Index → List (List ℤ) → List ℤ → Bounds → ℕ → Type 0
HasNoneUnderSecond index rows z bounds =
    AllKids index.second bounds.classes (HasNoneUnderThird index rows z bounds)

abbrev pub HasNoneUnderFirst : Index → List (List ℤ) → List ℤ → Bounds → ℕ → Type 0
HasNoneUnderFirst index rows z bounds =
    AllKids index.first bounds.classes (HasNoneUnderSecond index rows z bounds)

-- the place is that of a row in a bucket that is below z and stands before the end
abbrev pub IsBelowIn : Index → List (List ℤ) → List ℤ → Bounds → ℕ → Type 0
IsBelowIn index rows z bounds id =
    (b : ℕ) × (b < bucket_count index) × IsBelowAt (bucket_at index b) rows z bounds id

-- a fact on numbers holds of the kids of a branch whose classes are among some, but for those that
-- are left
abbrev pub HoldsOfSearched : List BranchValue → ℕ → ℕ → (ℕ → Type 0) → ℕ → Type 0
HoldsOfSearched tier classes rest P n =
    (c : ℕ) → bit_at classes c ≡ 1 → HasKidAt tier n c → (bit_at rest c ≡ 1) ⊎ P (kid_at tier n c)
