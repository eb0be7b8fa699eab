-- A pool as contracts see it, and how its rows lie among its cells.
use Rattle.std.specs.Prelude.{◌≡◌, ◌+◌, ◌*◌, ◌<◌, ◌≤◌, ℕ, ℤ, zero, suc, List, [], ◌∷◌, All, length, take, drop}
use Rattle.int_vector.specs.Range.{InRange}

-- the width of each row, the rows, and for how many more there is room
pub record PoolValue : Type 0 where
  pub width : ℕ
  pub rows : List (List ℤ)
  pub spare : ℕ

-- the first rows of this width among the cells
abbrev pub rows_of : ℕ → ℕ → List ℤ → List (List ℤ)
rows_of zero w cells = []
rows_of (suc n) w cells = take w cells ∷ rows_of n w (drop w cells)

-- the fields of a pool: cells of whole rows, in range, with room for the spare rows
pub record IsPool (width count spare capacity : ℕ) (cells : List ℤ) : Type 0 where
  pub narrow : width ≤ 130
  pub whole : length cells ≡ count * width
  pub room : length cells + spare * width ≤ capacity
  pub few : count + spare < 4294967296
  pub in_range : All InRange cells
