-- Which system the files of a user give for a tool, and their first fault.
use Rattle.std.specs.Prelude.{ℕ, ◌==◌, ◌&&◌, ◌||◌, not, if◌then◌else◌, List, [], ◌∷◌, ℤ, pos, negsuc, replicate, Option, Some, None, option_map, Bool, true, false}
use Rattle.std.specs.Option.{option_or}
use Rattle.std.specs.Ordering.{int_eq}
use Rattle.std.specs.List.{find, enumerate_from}
use Rattle.mat_files.specs.Cells.{Matrix, Relations, CapTable}
use Rattle.mat_files.specs.declared.relations.Rel.{Rel}
use Rattle.mat_files.specs.declared.relations.Rel.TheVariants.{Most, Least, Equal}
use Rattle.lift_core.specs.Lists.{cut_rows}
use Rattle.lift_core.specs.Systems.{ToolSystem}
use Rattle.lift_core.specs.declared.Tool.{Tool}
use Rattle.lift_core.specs.declared.Tool.TheVariants.{Graver, Hilbert, Zsolve}
use Rattle.system_shape.specs.Problem.{Relation, at_most, equal_to, at_least, UserRow, UserSystem}
use Rattle.system_shape.specs.Slacks.{linear_system}
use Rattle.system_shape.specs.declared.files.Input.{Input}
use Rattle.system_shape.specs.declared.faults.ShapeFault.{ShapeFault}
use Rattle.system_shape.specs.declared.faults.ShapeFault.TheVariants.{SignNeeded, SignShape, BadSign, Free, RelShape, RhsNotHere, RhsShape, CapShape}

-- ---- the user's system
-- the signs of n columns; a tool without a file for them has 2 for graver and 1 for hilbert, and zsolve needs the file
abbrev pub given_signs : Tool → ℕ → Option Matrix → List ℤ
given_signs tool n (Some file) = file.cells
given_signs Graver n None = replicate n (pos 2)
given_signs Hilbert n None = replicate n (pos 1)
given_signs Zsolve n None = []

-- the relations of m rows, each of which is an equation where there is no file
abbrev pub given_relations : ℕ → Option Relations → List Rel
given_relations m (Some file) = file.cells
given_relations m None = replicate m Equal

-- the right sides of m rows, each 0 where there is no file
abbrev pub given_rights : ℕ → Option Matrix → List ℤ
given_rights m (Some file) = file.cells
given_rights m None = replicate m (pos 0)

-- the caps of n columns, none of which has one where there is no file
abbrev pub given_caps : ℕ → Option CapTable → List (Option ℕ)
given_caps n (Some file) = file.cells
given_caps n None = replicate n None

abbrev pub relation_of : Rel → Relation
relation_of Most = at_most
relation_of Least = at_least
relation_of Equal = equal_to

-- the rows with these coefficients, relations and right sides
abbrev pub user_rows : List (List ℤ) → List Rel → List ℤ → List UserRow
user_rows [] relations rights = []
user_rows (a ∷ rows) [] rights = []
user_rows (a ∷ rows) (k ∷ relations) [] = []
user_rows (a ∷ rows) (k ∷ relations) (b ∷ rights) =
    record { coefficients = a; relation = relation_of k; right = b }
    ∷ user_rows rows relations rights

-- zsolve alone has x0
abbrev pub has_x0 : Tool → Bool
has_x0 Graver = false
has_x0 Hilbert = false
has_x0 Zsolve = true

abbrev pub user_system : Tool → Input → UserSystem
user_system tool input = record {
  signs = given_signs tool input.mat.cols input.sign;
  caps = given_caps input.mat.cols input.cap;
  rows = user_rows
      (cut_rows input.mat.rows input.mat.cols input.mat.cells)
      (given_relations input.mat.rows input.rel)
      (given_rights input.mat.rows input.rhs);
  has_x0 = has_x0 tool;
}

-- the linear system that stands for it
abbrev pub tool_system : Tool → Input → ToolSystem
tool_system tool input =
    record { tool = tool; n = input.mat.cols; equations = linear_system (user_system tool input) }

-- ---- the first fault of the files
-- at least 0, at most 0, or any number
abbrev pub is_sign : ℤ → Bool
is_sign s = int_eq s (pos 1) || (int_eq s (negsuc 0) || int_eq s (pos 2))

-- the fault of a column, counted from 1, whose entry is no such sign
abbrev pub fault_of_sign : ℕ → ℤ → ShapeFault
fault_of_sign column s = if int_eq s (pos 0) then Free column else BadSign column s

-- the fault of the first column that has one, where the columns are counted from j
abbrev pub column_fault : ℕ → List ℤ → Option ShapeFault
column_fault j signs =
    option_map (λ c. fault_of_sign c.0 c.1) (find (λ c. not (is_sign c.1)) (enumerate_from j signs))

-- the fault where the counts are not those of one row of n entries
abbrev pub line_fault : ℕ → ℕ → ℕ → ShapeFault → Option ShapeFault
line_fault rows cols n fault = if (rows == 1) && (cols == n) then None else Some fault

abbrev pub sign_file_fault : ℕ → Matrix → Option ShapeFault
sign_file_fault n file =
    option_or
    (line_fault file.rows file.cols n (SignShape file.rows file.cols))
    (column_fault 1 file.cells)

abbrev pub sign_fault : Tool → ℕ → Option Matrix → Option ShapeFault
sign_fault tool n (Some file) = sign_file_fault n file
sign_fault Graver n None = None
sign_fault Hilbert n None = None
sign_fault Zsolve n None = Some SignNeeded

abbrev pub relation_fault : ℕ → Option Relations → Option ShapeFault
relation_fault m (Some file) = line_fault file.rows file.cols m (RelShape file.rows file.cols)
relation_fault m None = None

abbrev pub right_fault : Tool → ℕ → Option Matrix → Option ShapeFault
right_fault tool m None = None
right_fault Graver m (Some file) = Some RhsNotHere
right_fault Hilbert m (Some file) = Some RhsNotHere
right_fault Zsolve m (Some file) = line_fault file.rows file.cols m (RhsShape file.rows file.cols)

abbrev pub cap_fault : ℕ → Option CapTable → Option ShapeFault
cap_fault n (Some file) = line_fault file.rows file.cols n (CapShape file.rows file.cols)
cap_fault n None = None

-- the signs come first, then the relations, then the right sides, then the caps
abbrev pub shape_fault : Tool → Input → Option ShapeFault
shape_fault tool input =
    option_or (sign_fault tool input.mat.cols input.sign)
    (option_or (relation_fault input.mat.rows input.rel)
    (option_or (right_fault tool input.mat.rows input.rhs) (cap_fault input.mat.cols input.cap)))
