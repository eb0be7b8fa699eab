-- The rows that are written of a linear system: the first n entries of its minimal solutions of a kind.
use Rattle.std.specs.Prelude.{◌≡◌, ℕ, List, ℤ, pos, take, length, IsTrue}
use Rattle.int_vector.specs.Vectors.{lex_cmp, negated, leads_negative}
use Rattle.lift_core.specs.Lists.{IsListOf}
use Rattle.lift_core.specs.Columns.{SolutionKind, Every}
use Rattle.lift_core.specs.Kinds.{HasX0}
use Rattle.lift_core.specs.Systems.{LinearSystem, IsMinimalSolution}
use Rattle.lift_core.specs.Stages.{last}
use Rattle.lift_core.specs.declared.Tool.{Tool}
use Rattle.lift_core.specs.declared.Tool.TheVariants.{Graver, Hilbert, Zsolve}

-- x0, the entry of the last column of zsolve; the other tools have no such column
abbrev pub x0_of : Tool → List ℤ → ℤ
x0_of Graver v = pos 0
x0_of Hilbert v = pos 0
x0_of Zsolve v = last v

-- x is the first n entries of a minimal solution of that kind
pub record IsWrittenOf (S : LinearSystem) (n : ℕ) (kind : SolutionKind) (x : List ℤ) : Type 0 where
  pub solution : List ℤ
  pub minimal : IsMinimalSolution S (length S.rows) solution
  pub x0 : HasX0 kind solution
  pub is : x ≡ take n solution

-- the one list that is written
abbrev pub IsWanted : LinearSystem → ℕ → SolutionKind → List (List ℤ) → Type 0
IsWanted S n kind rows = IsListOf lex_cmp (IsWrittenOf S n kind) rows

-- for Graver sets: of a vector and its negative, where both are there, the one that leads positive
abbrev pub IsWantedGraver : LinearSystem → ℕ → List (List ℤ) → Type 0
IsWantedGraver S n rows =
    IsListOf lex_cmp
    (λ x. IsWrittenOf S n Every x
    × (IsWrittenOf S n Every (negated x) → IsTrue (leads_negative x) → ⊥))
    rows
