-- The problem that the three commands solve, in the words of the field. Nothing here says how it is solved.
--
-- A system has an unknown x of n entries, each with a sign (1: at least 0; -1: at most 0; 2: any number) and perhaps
-- a cap, and rows `a x <= b`, `a x = b` or `a x >= b`. `zsolve` asks for it with the right sides b (c = 1) and with
-- right sides 0 (c = 0), each in a file of its own; `hilbert` and `graver` have no right sides, and so c = 0 alone
-- (`has_x0` in `Shape.antt`). Wanted are the solutions that are minimal in the conformal order of Graver (1975),
-- which compares x and the differences of both sides of each inequality.
--
-- Product, order ⊑, zero and negated vectors: `int_vector/specs/Vectors.antt`; signs, caps and kinds of solutions:
-- `lift_core/specs/Columns.antt`; the list of a set: `lift_core/specs/Lists.antt`.
use Rattle.std.specs.Prelude.{◌≡◌, ℕ, List, [], ◌∷◌, ◌++◌, ℤ, pos, ◌*ℤ◌, ◌-ℤ◌, ◌≤ℤ◌, Option, Bool, true, false, IsTrue, ⊤}
use Rattle.std.specs.List.{AllZip, AllByRecursion}
use Rattle.int_vector.specs.Vectors.{dot, ◌⊑◌, IsZero, lex_cmp, negated, leads_negative}
use Rattle.lift_core.specs.Lists.{IsListOf}
use Rattle.lift_core.specs.Columns.{HasSign, IsCapped, SolutionKind, Homogeneous, Inhomogeneous, Every}

-- ---- the user's system
-- how the product of a row with x stands to the right side: at most, equal or at least
pub data Relation : Type 0 where
  at_most : Relation
  equal_to : Relation
  at_least : Relation

abbrev pub Stands : Relation → ℤ → ℤ → Type 0
Stands at_most p q = p ≤ℤ q
Stands equal_to p q = p ≡ q
Stands at_least p q = q ≤ℤ p

-- a row: its coefficients a, its relation, and its right side b
pub record UserRow : Type 0 where
  pub coefficients : List ℤ
  pub relation : Relation
  pub right : ℤ

-- the sign and the cap of each entry of x, the rows, and whether the factor c of the right sides may be 1. Where it
-- may, as in `zsolve`, c is an entry of the full vector, which the field calls x0; else c is 0
pub record UserSystem : Type 0 where
  pub signs : List ℤ
  pub caps : List (Option ℕ)
  pub rows : List UserRow
  pub has_x0 : Bool

-- ---- its solutions
-- x obeys signs and caps, and the product of each row with x stands to c times the right side as the relation says
pub record SolvesUser (U : UserSystem) (c : ℤ) (x : List ℤ) : Type 0 where
  pub signs : AllZip HasSign U.signs x
  pub caps : AllZip IsCapped U.caps x
  pub rows : AllByRecursion (λ r. Stands r.relation (dot r.coefficients x) (r.right *ℤ c)) U.rows

-- the values of c: 0 or 1 where it may be 1, and else 0
abbrev pub IsX0 : Bool → ℤ → Type 0
IsX0 true c = (pos 0 ≤ℤ c) × (c ≤ℤ pos 1)
IsX0 false c = c ≡ pos 0

-- x solves the system with c times the right sides
pub record IsUserSolution (U : UserSystem) (c : ℤ) (x : List ℤ) : Type 0 where
  pub factor : IsX0 U.has_x0 c
  pub solves : SolvesUser U c x

-- ---- the full vector
-- the difference of both sides of an inequality, which is not negative where it holds; an equation has none
abbrev pub difference_before : Relation → ℤ → ℤ → List ℤ → List ℤ
difference_before at_most p q rest = (q -ℤ p) ∷ rest
difference_before equal_to p q rest = rest
difference_before at_least p q rest = (p -ℤ q) ∷ rest

-- the differences of all rows, in their order
abbrev pub differences : List UserRow → ℤ → List ℤ → List ℤ
differences [] c x = []
differences (r ∷ rows) c x =
    difference_before r.relation (dot r.coefficients x) (r.right *ℤ c) (differences rows c x)

-- the last entry of a full vector: c, where it may be 1
abbrev pub x0_entry : Bool → ℤ → List ℤ
x0_entry true c = c ∷ []
x0_entry false c = []

-- x, then the differences, then c where it may be 1
abbrev pub full_vector : UserSystem → ℤ → List ℤ → List ℤ
full_vector U c x = x ++ (differences U.rows c x ++ x0_entry U.has_x0 c)

-- ---- what is wanted
-- the full vector of x is not zero, and the full vector of no other solution is below it, but for zero
pub record IsMinimalForUser (U : UserSystem) (c : ℤ) (x : List ℤ) : Type 0 where
  pub solution : IsUserSolution U c x
  pub nonzero : ¬ IsZero (full_vector U c x)
  pub least : (d : ℤ) (y : List ℤ) → IsUserSolution U d y → ¬ IsZero (full_vector U d y)
      → full_vector U d y ⊑ full_vector U c x → (d ≡ c) × (y ≡ x)

-- the values of c that are asked for: 0, the homogeneous solutions; 1, the inhomogeneous ones; or any, as `hilbert` and
-- `graver` ask, in whose systems c is 0 alone
abbrev pub IsOfKind : SolutionKind → ℤ → Type 0
IsOfKind Homogeneous c = c ≡ pos 0
IsOfKind Inhomogeneous c = c ≡ pos 1
IsOfKind Every c = ⊤

-- x is a minimal solution of that kind
pub record IsMinimalOfKind (U : UserSystem) (kind : SolutionKind) (x : List ℤ) : Type 0 where
  pub c : ℤ
  pub of_kind : IsOfKind kind c
  pub minimal : IsMinimalForUser U c x

-- the wanted list, in lexicographic order: exactly the minimal solutions of that kind. For `hilbert`, with signs 1 and
-- -1 alone and without caps, they are the Hilbert basis of the cone
abbrev pub IsWantedForUser : UserSystem → SolutionKind → List (List ℤ) → Type 0
IsWantedForUser U kind rows = IsListOf lex_cmp (IsMinimalOfKind U kind) rows

-- the wanted list of `graver`: exactly the minimal solutions, but of a vector and its negative, where both are minimal,
-- the one whose first nonzero entry is positive. With sign 2 alone, equations alone and no caps it is the Graver basis
abbrev pub IsWantedGraverForUser : UserSystem → List (List ℤ) → Type 0
IsWantedGraverForUser U rows =
    IsListOf lex_cmp
    (λ x. IsMinimalOfKind U Every x
    × (IsMinimalOfKind U Every (negated x) → IsTrue (leads_negative x) → ⊥))
    rows
