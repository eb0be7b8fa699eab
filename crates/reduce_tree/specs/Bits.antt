-- Sets of bits as numbers.
use Rattle.std.specs.Prelude.{ℕ, ◌≤◌}
use Rattle.std.specs.Int.{bit_at}

-- each bit of a is a bit of b
abbrev pub IsPartOf : ℕ → ℕ → Type 0
IsPartOf a b = (i : ℕ) → bit_at a i ≤ bit_at b i
