-- The linear system that stands for the user's: a slack column for each inequality makes it an equation, and x0
-- brings the
-- right sides to the left. How a run ends, and how many pairs it uses, is said of this system.
use Rattle.std.specs.Prelude.{ℕ, suc, List, [], ◌∷◌, ◌++◌, ℤ, pos, negsuc, neg_ℤ, map, replicate, Option, Some, None, Bool, true, false}
use Rattle.lift_core.specs.Systems.{LinearSystem}
use Rattle.system_shape.specs.Problem.{Relation, at_most, equal_to, at_least, UserRow, UserSystem}

-- the number of rows with a slack
abbrev pub slack_count_of : Relation → ℕ → ℕ
slack_count_of at_most n = suc n
slack_count_of equal_to n = n
slack_count_of at_least n = suc n

abbrev pub slack_count : List UserRow → ℕ
slack_count [] = 0
slack_count (r ∷ rows) = slack_count_of r.relation (slack_count rows)

-- the parts of the rows in the slack columns, which stand in row order
abbrev pub with_part : Relation → ℕ → List (List ℤ) → List (List ℤ)
with_part at_most n parts = (pos 1 ∷ replicate n (pos 0)) ∷ map (λ p. pos 0 ∷ p) parts
with_part equal_to n parts = replicate n (pos 0) ∷ parts
with_part at_least n parts = (negsuc 0 ∷ replicate n (pos 0)) ∷ map (λ p. pos 0 ∷ p) parts

abbrev pub slack_parts : List UserRow → List (List ℤ)
slack_parts [] = []
slack_parts (r ∷ rows) = with_part r.relation (slack_count rows) (slack_parts rows)

-- the part of a row in the column of x0
abbrev pub x0_part : Bool → UserRow → List ℤ
x0_part true r = neg_ℤ r.right ∷ []
x0_part false r = []

abbrev pub rows_with_slacks : Bool → List UserRow → List (List ℤ) → List (List ℤ)
rows_with_slacks x0 [] parts = []
rows_with_slacks x0 (r ∷ rows) [] = []
rows_with_slacks x0 (r ∷ rows) (p ∷ parts) =
    (r.coefficients ++ (p ++ x0_part x0 r)) ∷ rows_with_slacks x0 rows parts

abbrev pub x0_signs : Bool → List ℤ
x0_signs true = pos 1 ∷ []
x0_signs false = []

abbrev pub x0_caps : Bool → List (Option ℕ)
x0_caps true = Some 1 ∷ []
x0_caps false = []

-- the linear system: the columns of x, the slacks, which are at least 0 and have no cap, and x0, which is 0 or 1
abbrev pub linear_system : UserSystem → LinearSystem
linear_system U = record {
  signs = U.signs ++ (replicate (slack_count U.rows) (pos 1) ++ x0_signs U.has_x0);
  caps = U.caps ++ (replicate (slack_count U.rows) None ++ x0_caps U.has_x0);
  rows = rows_with_slacks U.has_x0 U.rows (slack_parts U.rows);
}
