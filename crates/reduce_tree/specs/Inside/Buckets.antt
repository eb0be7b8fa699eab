-- Buckets: filed rows in the order in which they came, and words that are true of groups of
-- neighbours.
use Rattle.std.specs.Prelude.{◌≡◌, ◌↔◌, ℕ, ◌/◌, ◌<◌, ℤ, List, [], length, slice_index_or, bit_and}
use Rattle.std.specs.Int.{bit_at}
use Rattle.int_vector.specs.Vectors.{◌⊑◌}
use Rattle.reduce_tree.specs.declared.bounds.Bounds.{Bounds}
use Rattle.reduce_tree.specs.declared.bounds.Word.{Word}
use Rattle.reduce_tree.specs.declared.items.Key.{Key}
use Rattle.reduce_tree.specs.declared.tree.Filed.{Filed}
use Rattle.reduce_tree.specs.Inside.Bounds.{Admits, word_of, Covers}

abbrev pub no_key : Key
no_key = record { part = 0; first = 0; second = 0; third = 0 }

-- what is read past the end of a list
abbrev pub nothing_filed : Filed
nothing_filed = record { place = 0; bucket = 0; size = 0; key = no_key; bits = 0 }

abbrev pub no_word : Word
no_word = record { bits = 0; size = 0; place = 0 }

-- a word for each whole group of `size` neighbours, which is true of each of them
pub record AreCommon (size : ℕ) (words : List Word) (rows : List Filed) : Type 0 where
  pub count : length words ≡ length rows / size
  pub covers : (k : ℕ) → k < length rows → k / size < length words
      → Covers (slice_index_or words (k / size) no_word) (slice_index_or rows k nothing_filed)

pub record IsBucket (rows : List Filed) (eights blocks : List Word) : Type 0 where
  pub few : length rows < 4294967296
  pub by_eight : AreCommon 8 eights rows
  pub by_block : AreCommon 64 blocks rows

-- there is a word for the group of this number, and the bounds do not admit it
abbrev pub IsRuledOut : List Word → ℕ → Bounds → Type 0
IsRuledOut words group bounds =
    (group < length words) × (Admits bounds (slice_index_or words group no_word) → ⊥)

-- the place is that of a row, and where that row is below z and stands before the end, the bounds
-- admit what is filed
pub record IsMarked (rows : List (List ℤ)) (z : List ℤ) (bounds : Bounds) (f : Filed) : Type 0 where
  pub inside : f.place < length rows
  pub admitted : slice_index_or rows f.place [] ⊑ z → f.place < bounds.end
      → Admits bounds (word_of f)

-- the row is not below z, or does not stand before the end
abbrev pub IsNotBelow : List (List ℤ) → List ℤ → Bounds → Filed → Type 0
IsNotBelow rows z bounds f = f.place < bounds.end → slice_index_or rows f.place [] ⊑ z → ⊥

-- of the first filed rows none is below z
abbrev pub AreNoneBelow : List Filed → List (List ℤ) → List ℤ → Bounds → ℕ → Type 0
AreNoneBelow bucket rows z bounds to =
    (k : ℕ) → k < to → k < length bucket
    → IsNotBelow rows z bounds (slice_index_or bucket k nothing_filed)

-- the place is that of a filed row that is below z and stands before the end
abbrev pub IsBelowAt : List Filed → List (List ℤ) → List ℤ → Bounds → ℕ → Type 0
IsBelowAt bucket rows z bounds id =
    (k : ℕ) × (k < length bucket) × ((slice_index_or bucket k nothing_filed).place ≡ id)
    × (id < bounds.end)
    × (slice_index_or rows id [] ⊑ z)

-- the set has the numbers of those of the first filed rows that have none of the bits outside, and
-- no others
abbrev pub IsSetOfApart : List Filed → ℕ → ℕ → ℕ → Type 0
IsSetOfApart bucket outside to set =
    (k : ℕ) → (bit_at set k ≡ 1)
    ↔ (k < to) × (bit_and (slice_index_or bucket k nothing_filed).bits outside ≡ 0)
