-- Rows of a width with entries in range.
use Rattle.std.specs.Prelude.{◌≡◌, ℕ, ℤ, List, length, All}
use Rattle.std.specs.List.{Contains}
use Rattle.int_vector.specs.Range.{InRange}

-- each row has so many entries, all in range
abbrev pub AreFit : ℕ → List (List ℤ) → Type 0
AreFit width rows = (z : List ℤ) → Contains rows z → (length z ≡ width) × All InRange z
