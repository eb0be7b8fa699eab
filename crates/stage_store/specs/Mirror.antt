-- Negatives of rows: where each listed row has its negative listed too, what is known of a row is known of its negative.
use Rattle.std.specs.Prelude.{◌≡◌, ℕ, ◌+◌, ◌-◌, ◌<◌, ◌≤◌, List, ℤ, cond, length, slice_index_or}
use Rattle.std.specs.List.{Contains}
use Rattle.int_vector.specs.Vectors.{negated}
use Rattle.stage_store.specs.Classes.{row_at}
use Rattle.stage_store.specs.Levels.{is_plus}

-- the negative of each listed row is listed too
abbrev pub HasNegatives : List (List ℤ) → Type 0
HasNegatives listed = (u : List ℤ) → Contains listed u → Contains listed (negated u)

-- the place that the mirror gives for place k
abbrev pub place_in : List ℕ → ℕ → ℕ
place_in mirror k = slice_index_or mirror k 0

-- the mirror gives each place that of the negative of its row
pub record IsMirror (listed : List (List ℤ)) (mirror : List ℕ) : Type 0 where
  pub within : length mirror ≤ length listed
  pub inside : (k : ℕ) → k < length mirror → place_in mirror k < length mirror
  pub back : (k : ℕ) → k < length mirror → place_in mirror (place_in mirror k) ≡ k
  pub negative : (k : ℕ) → k < length mirror
      → row_at listed (place_in mirror k) ≡ negated (row_at listed k)

-- it does so for all listed rows
pub record IsWholeMirror (listed : List (List ℤ)) (mirror : List ℕ) : Type 0 where
  pub count : length mirror ≡ length listed
  pub mirror_is : IsMirror listed mirror

-- there is no mirror, or it is one of all listed rows
abbrev pub IsWholeOr : List (List ℤ) → List ℕ → Type 0
IsWholeOr listed mirror = 0 < length mirror → IsWholeMirror listed mirror

-- the same, and the first n rows have their negatives among themselves
pub record IsTurnedTo (listed : List (List ℤ)) (n : ℕ) (mirror : List ℕ) : Type 0 where
  pub whole : IsWholeMirror listed mirror
  pub before : (k : ℕ) → k < n → place_in mirror k < n

-- the rows at the second places are the negatives of those at the first, one by one
pub record AreCouples (mirror plus minus : List ℕ) : Type 0 where
  pub count : length minus ≡ length plus
  pub each : (k : ℕ) → k < length plus
      → (slice_index_or plus k 0 < length mirror)
      × (place_in mirror (slice_index_or plus k 0) ≡ slice_index_or minus k 0)

-- ---- rows in the other order
-- the place that place k has when those from `from` up to `to` are taken in the other order
abbrev pub turned_place : ℕ → ℕ → ℕ → ℕ
turned_place from to k = to - 1 - (k - from)

-- the rows from a place on are the negatives of themselves in the other order
abbrev pub AreNegatives : List (List ℤ) → ℕ → Type 0
AreNegatives listed from =
    (k : ℕ) → from ≤ k → k < length listed
    → row_at listed (turned_place from (length listed) k) ≡ negated (row_at listed k)

-- the places from `from` up to `to` come in the other order
pub record AddsTurned (from to : ℕ) (old new : List ℕ) : Type 0 where
  pub count : length new ≡ to
  pub before : (k : ℕ) → k < from → place_in new k ≡ place_in old k
  pub behind : (k : ℕ) → from ≤ k → k < to → place_in new k ≡ turned_place from to k

-- ---- levels
-- the item of the same column and the other sign
abbrev pub turned_item : ℕ → ℕ
turned_item k = cond (is_plus k) (k + 1) (k - 1)

-- each item has the level of the other sign
pub record IsTurnedLevels (levels turned : List ℕ) : Type 0 where
  pub count : length turned ≡ length levels
  pub each : (k : ℕ) → k < length turned
      → slice_index_or turned k 0 ≡ slice_index_or levels (turned_item k) 0
