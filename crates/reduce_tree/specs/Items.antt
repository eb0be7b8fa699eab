-- Where a row is filed: in a part by the sign of its last entry, and there by the classes of its
-- first items.
use Rattle.std.specs.Prelude.{◌≡◌, ◌⊎◌, ℕ, zero, suc, ◌+◌, ◌-◌, ◌*◌, List, ℤ, pos, negsuc, nat_abs, min, length, slice_index_or}
use Rattle.std.specs.Int.{bit_at}
use Rattle.reduce_tree.specs.declared.items.Key.{Key}

-- an item is a column with a sign: 2 c for entries of column c that are not below 0, and 2 c + 1 for
-- those below
abbrev pub item_at : ℕ → ℤ → ℕ
item_at column (pos n) = 2 * column
item_at column (negsuc n) = 2 * column + 1

-- a class of a row is 127, which each row has, or the number of a bit of its signature
abbrev pub IsRowClass : ℕ → ℕ → Type 0
IsRowClass bits c = (c ≡ 127) ⊎ (bit_at bits c ≡ 1)

-- the last entry, and 0 where there is none
abbrev pub last_of : List ℤ → ℤ
last_of row = slice_index_or row (length row - 1) (pos 0)

-- the part of the rows with this last entry: 0, 1 or 2, where it is 0, above 0 or below 0
abbrev pub part_at : ℤ → ℕ
part_at (pos zero) = 0
part_at (pos (suc n)) = 1
part_at (negsuc n) = 2

abbrev pub part_of : List ℤ → ℕ
part_of row = part_at (last_of row)

-- the absolute value of the last entry, as far as 32 bits go
abbrev pub size_of : List ℤ → ℕ
size_of row = min (nat_abs (last_of row)) 4294967295

-- the part of a row, and three classes that it has by its signature
pub record IsKeyOf (row : List ℤ) (bits : ℕ) (key : Key) : Type 0 where
  pub part : key.part ≡ part_of row
  pub first : IsRowClass bits key.first
  pub second : IsRowClass bits key.second
  pub third : IsRowClass bits key.third
