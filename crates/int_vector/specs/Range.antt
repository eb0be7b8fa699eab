-- The numbers that entries, right sides and caps may be.
use Rattle.std.specs.Prelude.{ℕ, ◌≤◌, ℤ, nat_abs, Option, Some, None, ⊤}
use Rattle.int_vector.specs.Vectors.{largest}

-- from -(2^63-1) to 2^63-1
abbrev pub InRange : ℤ → Type 0
InRange x = nat_abs x ≤ largest

-- a cap in range, or no cap
abbrev pub IsCap : Option ℕ → Type 0
IsCap None = ⊤
IsCap (Some c) = c ≤ largest
