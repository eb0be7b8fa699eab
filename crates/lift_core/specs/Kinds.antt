-- The kinds of solutions, by their last entry.
use Rattle.std.specs.Prelude.{◌≡◌, List, ℤ, pos, ⊤}
use Rattle.lift_core.specs.Columns.{SolutionKind, Homogeneous, Inhomogeneous, Every}
use Rattle.lift_core.specs.Stages.{last}

-- the last entry, x0, is 0, is 1, or is anything
abbrev pub HasX0 : SolutionKind → List ℤ → Type 0
HasX0 Homogeneous v = last v ≡ pos 0
HasX0 Inhomogeneous v = last v ≡ pos 1
HasX0 Every v = ⊤
