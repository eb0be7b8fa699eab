-- The sign of an entry.
use Rattle.std.specs.Prelude.{Bool, true, false, ℤ, pos, ◌<ℤ◌}

-- above 0, or below 0
abbrev pub IsSigned : Bool → ℤ → Type 0
IsSigned true x = pos 0 <ℤ x
IsSigned false x = x <ℤ pos 0
