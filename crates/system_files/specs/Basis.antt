-- The Graver basis of a matrix.
use Rattle.std.specs.Prelude.{List, ℤ, None}
use Rattle.mat_files.specs.Cells.{Matrix}
use Rattle.lift_core.specs.declared.Tool.TheVariants.{Graver}
use Rattle.system_shape.specs.Shape.{user_system}
use Rattle.system_shape.specs.Problem.{IsWantedGraverForUser}
use Rattle.system_shape.specs.declared.files.Input.{Input}

-- the matrix alone: no other files
abbrev pub alone : Matrix → Input
alone mat = record { mat = mat; sign = None; rel = None; rhs = None; cap = None }

-- the rows that `graver` writes for the matrix alone: the minimal nonzero vectors of its kernel, of each and its negative the one that leads positive
abbrev pub IsGraverBasis : Matrix → List (List ℤ) → Type 0
IsGraverBasis mat rows = IsWantedGraverForUser (user_system Graver (alone mat)) rows
