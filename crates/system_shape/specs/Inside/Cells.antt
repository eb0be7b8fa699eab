-- The entries of the linear system's equations, one equation after another.
use Rattle.std.specs.Prelude.{ℕ, List, [], ◌∷◌, ◌++◌, ℤ, pos, negsuc, neg_ℤ, replicate, Bool, true, false}
use Rattle.mat_files.specs.declared.relations.Rel.{Rel}
use Rattle.system_shape.specs.Problem.{Relation, at_most, equal_to, at_least, UserRow}
use Rattle.system_shape.specs.Slacks.{slack_count_of, slack_count}
use Rattle.system_shape.specs.Shape.{relation_of}

-- the number of rows with a slack
abbrev pub slack_total : List Rel → ℕ
slack_total [] = 0
slack_total (k ∷ relations) = slack_count_of (relation_of k) (slack_total relations)

-- a row's entry in its own slack column
abbrev pub own_part : Relation → List ℤ
own_part at_most = pos 1 ∷ []
own_part equal_to = []
own_part at_least = negsuc 0 ∷ []

-- a row's entries in the slack columns, with so many columns of other rows before and behind its own
abbrev pub slack_part : ℕ → Relation → ℕ → List ℤ
slack_part before k behind = replicate before (pos 0) ++ (own_part k ++ replicate behind (pos 0))

-- a row's entry in the homogenising column, where there is one
abbrev pub x0_cells : Bool → ℤ → List ℤ
x0_cells true b = neg_ℤ b ∷ []
x0_cells false b = []

-- the entries of a row with this relation and right side
abbrev pub row_cells : Bool → List ℤ → ℕ → Relation → ℕ → ℤ → List ℤ
row_cells x0 coefficients before k behind b =
    coefficients ++ (slack_part before k behind ++ x0_cells x0 b)

-- the entries of the equations of these rows, where so many slack columns stand before those of the rows
abbrev pub cells_from : Bool → ℕ → List UserRow → List ℤ
cells_from x0 before [] = []
cells_from x0 before (r ∷ rows) =
    row_cells x0 r.coefficients before r.relation (slack_count rows) r.right
    ++ cells_from x0 (slack_count_of r.relation before) rows
