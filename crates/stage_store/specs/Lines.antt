-- Lines of bits over 64 rows, and levels. Both are one-sided: what is not told may be true all the same.
use Rattle.std.specs.Prelude.{◌≡◌, ◌⊎◌, ℕ, ◌+◌, ◌*◌, ◌/◌, ◌%◌, ◌<◌, ◌≤◌, Bool, true, false, ℤ, List, ◌^◌, length, slice_index_or, slice_set, bit_or}
use Rattle.std.specs.Int.{bit_at}
use Rattle.stage_store.specs.Classes.{row_at}

-- of the eight levels of an item the upper ones from `level` on are said, or the lower ones before it
abbrev pub IsSaidLevel : Bool → ℕ → ℕ → Type 0
IsSaidLevel true level l = level ≤ l
IsSaidLevel false level l = l < level

-- line m is that of level m % 8 of item m / 8
abbrev pub IsSaid : Bool → List ℕ → ℕ → Type 0
IsSaid upper levels m = IsSaidLevel upper (slice_index_or levels (m / 8) 0) (m % 8)

-- the bit of a row in a line
abbrev pub HasBit : List ℕ → ℕ → ℕ → Type 0
HasBit lines m r = bit_at (slice_index_or lines m 0) r ≡ 1

-- the lines with a bit more
abbrev pub with_bit : List ℕ → ℕ → ℕ → List ℕ
with_bit lines m q = slice_set lines m (bit_or (slice_index_or lines m 0) (1 * 2 ^ q % 2 ^ 64))

-- no bit is set
abbrev pub AreClear : List ℕ → Type 0
AreClear lines = (m r : ℕ) → HasBit lines m r → ⊥

-- row q is marked in the lines that are said, and in no others
abbrev pub MarksRow : Bool → List ℕ → ℕ → List ℕ → List ℕ → Type 0
MarksRow upper levels q old new =
    (m r : ℕ) → m < length old → r < 64 → HasBit new m r
    → HasBit old m r ⊎ ((r ≡ q) × IsSaid upper levels m)

-- a row that has a bit has one in a line at one of the places
abbrev pub IsAny : List ℕ → List ℕ → ℕ → Type 0
IsAny lines places bits =
    (r : ℕ) → r < 64 → bit_at bits r ≡ 1
    → (a : ℕ) × (a < length places) × HasBit lines (slice_index_or places a 0) r

-- places of lines
abbrev pub AreInside : ℕ → List ℕ → Type 0
AreInside n places = (a : ℕ) → a < length places → slice_index_or places a 0 < n

-- row r is marked in the line at a place
abbrev pub IsMarkedAt : List ℕ → ℕ → ℕ → Type 0
IsMarkedAt lines r m = (m < length lines) × HasBit lines m r

-- the same for the lines at places
abbrev pub AreMarked : List ℕ → ℕ → List ℕ → Type 0
AreMarked lines r places =
    (a : ℕ) → a < length places → IsMarkedAt lines r (slice_index_or places a 0)

-- the lines at the places are said
abbrev pub AreSaid : Bool → List ℕ → List ℕ → Type 0
AreSaid upper levels places =
    (a : ℕ) → a < length places
    → (slice_index_or places a 0 < 8 * length levels)
    × IsSaid upper levels (slice_index_or places a 0)

-- where row a·64 + r of the rows at the places has a bit in line m, P is true of it and m
abbrev pub Tell : (List ℤ → ℕ → Type 0) → List (List ℤ) → List ℕ → ℕ → List ℕ → Type 0
Tell P listed ids a lines = (m r : ℕ) → m < length lines → r < 64 → HasBit lines m r
    → (64 * a + r < length ids) × P (row_at listed (slice_index_or ids (64 * a + r) 0)) m
