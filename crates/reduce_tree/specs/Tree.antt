-- A tree as contracts see it: what was inserted, in order. A caller needs `places_of`, `Fits`,
-- `AreNotBelow` and `AreNotBelowBefore`; the rest says what is filed of a row.
use Rattle.std.specs.Prelude.{◌≡◌, ℕ, ◌<◌, ℤ, List, [], map, length, slice_index_or}
use Rattle.std.specs.List.{AllByRecursion, Contains}
use Rattle.int_vector.specs.Vectors.{◌⊑◌}
use Rattle.row_pool.specs.Rows.{PoolValue}
use Rattle.reduce_tree.specs.declared.tree.Filed.{Filed}
use Rattle.reduce_tree.specs.Items.{size_of, IsKeyOf}
use Rattle.reduce_tree.specs.Signatures.{signature_of}

-- the width of the rows, for how many thresholds each item has marks, and the places with where
-- they are filed
pub record TreeValue : Type 0 where
  pub width : ℕ
  pub levels : ℕ
  pub filed : List Filed

abbrev pub place_of : Filed → ℕ
place_of f = f.place

-- the places that were inserted, in order
abbrev pub places_of : TreeValue → List ℕ
places_of t = map place_of t.filed

-- the place is one of the rows, and what is filed of the row there is true of it
pub record StandsAt (levels : ℕ) (rows : List (List ℤ)) (f : Filed) : Type 0 where
  pub inside : f.place < length rows
  pub key : IsKeyOf (slice_index_or rows f.place []) f.bits f.key
  pub size : f.size ≡ size_of (slice_index_or rows f.place [])
  pub bits : f.bits ≡ signature_of levels (slice_index_or rows f.place [])

-- at each place that was inserted the pool has a row of which what is filed is true; a tree without
-- rows fits each pool of its width
pub record Fits (t : TreeValue) (p : PoolValue) : Type 0 where
  pub width : p.width ≡ t.width
  pub rows : AllByRecursion (StandsAt t.levels p.rows) t.filed

-- no row at these places is below z
abbrev pub AreNotBelow : List ℕ → List (List ℤ) → List ℤ → Type 0
AreNotBelow places rows z = (i : ℕ) → Contains places i → slice_index_or rows i [] ⊑ z → ⊥

-- no row at these places before an end is below z
abbrev pub AreNotBelowBefore : ℕ → List ℕ → List (List ℤ) → List ℤ → Type 0
AreNotBelowBefore end places rows z =
    (i : ℕ) → Contains places i → i < end → slice_index_or rows i [] ⊑ z → ⊥
