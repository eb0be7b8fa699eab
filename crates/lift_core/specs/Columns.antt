-- What is asked of an unknown, and which solutions are asked for.
use Rattle.std.specs.Prelude.{◌≡◌, ℕ, ◌≤◌, ℤ, pos, negsuc, ◌≤ℤ◌, nat_abs, Option, None, Some, ⊤}

-- sign 1: at least 0; sign -1: at most 0; any other sign: any number
pub record HasSign (s x : ℤ) : Type 0 where
  pub at_least : s ≡ pos 1 → pos 0 ≤ℤ x
  pub at_most : s ≡ negsuc 0 → x ≤ℤ pos 0

-- where there is a cap, the absolute value is at most the cap
abbrev pub IsCapped : Option ℕ → ℤ → Type 0
IsCapped None x = ⊤
IsCapped (Some c) x = nat_abs x ≤ c

-- which solutions are asked for: those of the rows with right sides 0, those of the rows with their right sides, or,
-- in a system that has no right sides, every one
pub data SolutionKind : Type 0 where
  Homogeneous : SolutionKind
  Inhomogeneous : SolutionKind
  Every : SolutionKind
