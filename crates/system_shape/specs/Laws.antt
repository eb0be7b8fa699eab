-- The laws between the user's system and the linear system that stands for it.
use Rattle.std.specs.Prelude.{◌≡◌, ◌↔◌, ℕ, List, ℤ, pos, take, length, Bool, true, false, ⊤}
use Rattle.std.specs.List.{AllByRecursion}
use Rattle.lift_core.specs.Columns.{SolutionKind, Homogeneous, Inhomogeneous, Every}
use Rattle.lift_core.specs.Systems.{Solves}
use Rattle.lift_core.specs.Stages.{last}
use Rattle.lift_core.specs.Inside.Written.{IsWrittenOf, IsWanted, IsWantedGraver}
use Rattle.system_shape.specs.Problem.{UserSystem, IsX0, SolvesUser, full_vector, IsUserSolution, IsMinimalOfKind, IsWantedForUser, IsWantedGraverForUser}
use Rattle.system_shape.specs.Slacks.{linear_system}

-- each row has as many coefficients as there are columns, and the signs and caps are as many
pub record IsWellFormed (U : UserSystem) : Type 0 where
  pub caps : length U.caps ≡ length U.signs
  pub rows : AllByRecursion (λ r. length r.coefficients ≡ length U.signs) U.rows

-- without x0 all solutions are asked for
abbrev pub HasKind : Bool → SolutionKind → Type 0
HasKind true kind = ⊤
HasKind false Homogeneous = ⊥
HasKind false Inhomogeneous = ⊥
HasKind false Every = ⊤

-- the entry in the column of x0; 0 where there is none
abbrev pub x0_in : Bool → List ℤ → ℤ
x0_in true v = last v
x0_in false v = pos 0

-- v solves the linear system, its first entries are x, and its entry in the column of x0 is c
pub record StandsFor (U : UserSystem) (c : ℤ) (x v : List ℤ) : Type 0 where
  pub solves : Solves (linear_system U) (length U.rows) v
  pub first : x ≡ take (length U.signs) v
  pub x0 : c ≡ x0_in U.has_x0 v

-- the full vector of a solution solves the linear system
abbrev pub FullSolves : Type 0
FullSolves =
    (U : UserSystem) (c : ℤ) (x : List ℤ) → IsWellFormed U → IsX0 U.has_x0 c → SolvesUser U c x
    → Solves (linear_system U) (length U.rows) (full_vector U c x)

-- a vector that solves the linear system is the full vector of a solution: x is its first entries, and c its entry in
-- the column of x0
abbrev pub SolutionsAreFull : Type 0
SolutionsAreFull =
    (U : UserSystem) (v : List ℤ) → IsWellFormed U → Solves (linear_system U) (length U.rows) v
    → IsX0 U.has_x0 (x0_in U.has_x0 v) × SolvesUser U (x0_in U.has_x0 v) (take (length U.signs) v)
    × (v ≡ full_vector U (x0_in U.has_x0 v) (take (length U.signs) v))

-- and of no other
abbrev pub OneSolution : Type 0
OneSolution =
    (U : UserSystem) (c d : ℤ) (x y : List ℤ) → IsUserSolution U c x → IsUserSolution U d y
    → full_vector U c x ≡ full_vector U d y → (c ≡ d) × (x ≡ y)

-- x, with c, solves the user's system exactly where a vector stands for it; then one vector does, whose slacks are
-- the differences
abbrev pub OneVector : Type 0
OneVector =
    (U : UserSystem) (c : ℤ) (x v : List ℤ) → IsWellFormed U → StandsFor U c x v
    ↔ (IsUserSolution U c x × (v ≡ full_vector U c x))

-- vectors that solve the linear system, with the same first entries and the same entry in the column of x0, are the
-- same
abbrev pub FirstEntriesDecide : Type 0
FirstEntriesDecide =
    (U : UserSystem) (v w : List ℤ) → IsWellFormed U → Solves (linear_system U) (length U.rows) v
    → Solves (linear_system U) (length U.rows) w
    → take (length U.signs) v ≡ take (length U.signs) w → x0_in U.has_x0 v ≡ x0_in U.has_x0 w
    → v ≡ w

-- what is written of the linear system is what the user's own system asks for
abbrev pub WrittenForUser : Type 0
WrittenForUser =
    (U : UserSystem) (n : ℕ) (kind : SolutionKind) (x : List ℤ)
    → IsWellFormed U → n ≡ length U.signs
    → HasKind U.has_x0 kind → IsWrittenOf (linear_system U) n kind x ↔ IsMinimalOfKind U kind x

abbrev pub WantedForUser : Type 0
WantedForUser =
    (U : UserSystem) (n : ℕ) (kind : SolutionKind) (rows : List (List ℤ)) → IsWellFormed U
    → n ≡ length U.signs → HasKind U.has_x0 kind
    → IsWanted (linear_system U) n kind rows ↔ IsWantedForUser U kind rows

abbrev pub GraverForUser : Type 0
GraverForUser =
    (U : UserSystem) (n : ℕ) (rows : List (List ℤ)) → IsWellFormed U → n ≡ length U.signs
    → HasKind U.has_x0 Every
    → IsWantedGraver (linear_system U) n rows ↔ IsWantedGraverForUser U rows
