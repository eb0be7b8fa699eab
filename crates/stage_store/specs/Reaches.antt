-- How far the last entries of two rows are apart where their sum has a listed row below it.
use Rattle.std.specs.Prelude.{◌⊎◌, ℕ, ◌+◌, ◌<◌, ◌≤◌, List, [], ◌∷◌, ℤ, pos, ◌<ℤ◌, neg_ℤ, nat_abs, int_lt, cond, length, slice_index_or}
use Rattle.stage_store.specs.Classes.{row_at}
use Rattle.lift_core.specs.Halves.{IsReducible}

-- the entry with an absolute value, and the sign against another's
abbrev pub entry_against : ℤ → ℕ → ℤ
entry_against x r = cond (int_lt (pos 0) x) (neg_ℤ (pos r)) (pos r)

-- a row with that in place of its last entry
abbrev pub with_reach : List ℤ → ℕ → List ℤ
with_reach [] r = []
with_reach (x ∷ []) r = entry_against x r ∷ []
with_reach (x ∷ y ∷ z) r = x ∷ with_reach (y ∷ z) r

-- a reach of the row is known, and a listed row is below it with the reach; or none is known
abbrev pub IsReachOr : List (List ℤ) → List ℤ → ℕ → Type 0
IsReachOr listed row r = 0 < r → IsReducible listed (with_reach row r)

abbrev pub AreReaches : List (List ℤ) → List ℕ → Type 0
AreReaches listed reaches =
    (k : ℕ) → k < length reaches → IsReachOr listed (row_at listed k) (slice_index_or reaches k 0)

-- x is above 0 and y below it, and one is larger than the other by its reach or more
pub record AreFarApart (x y : ℤ) (reach other : ℕ) : Type 0 where
  pub above : pos 0 <ℤ x
  pub under : y <ℤ pos 0
  pub far : ((0 < reach) × (nat_abs x + reach ≤ nat_abs y))
      ⊎ ((0 < other) × (nat_abs y + other ≤ nat_abs x))
