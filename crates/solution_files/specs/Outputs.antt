-- What is written: which rows, the grid that has them, its text, and the files behind the writing.
use Rattle.std.specs.Prelude.{◌≡◌, ℕ, ℤ, List, ◌++◌, length, take, IsTrue}
use Rattle.std.specs.List.{Contains, AllByRecursion, flat_map}
pub use Rattle.outside.specs.Files.{written, MayWrite}
use Rattle.mat_files.specs.Cells.{Matrix}
use Rattle.mat_files.specs.Texts.{head_of, line_of}
use Rattle.lift_core.specs.declared.Tool.{Tool}
use Rattle.lift_core.specs.declared.Tool.TheVariants.{Graver, Hilbert, Zsolve}
use Rattle.lift_core.specs.Systems.{ToolSystem}
use Rattle.lift_core.specs.Lists.{IsListOf}
use Rattle.int_vector.specs.Vectors.{lex_cmp, leads_negative, negated}
use Rattle.lift_core.specs.Kinds.{HasX0}
use Rattle.lift_core.specs.Columns.{Homogeneous, Inhomogeneous, Every}
use Rattle.lift_core.specs.Columns as core
use Rattle.solution_files.specs.declared.selection.Kind.{Kind}
use Rattle.solution_files.specs.declared.selection.Kind.TheVariants.{All, Hom, Inhom}

-- which minimal solutions the rows of a kind come from
abbrev pub kind_of : Kind → core.SolutionKind
kind_of All = Every
kind_of Hom = Homogeneous
kind_of Inhom = Inhomogeneous

-- x is the first n entries of a finished row of that kind
pub record IsProjected (finished : List (List ℤ)) (n : ℕ) (kind : core.SolutionKind) (x : List ℤ)
    : Type 0 where
  pub solution : List ℤ
  pub among : Contains finished solution
  pub home : HasX0 kind solution
  pub is : x ≡ take n solution

-- these are taken; for Graver sets, of a vector and its negative, where both are there, the one that leads positive
abbrev pub IsTaken : Tool → List (List ℤ) → ℕ → core.SolutionKind → List ℤ → Type 0
IsTaken Graver finished n kind x =
    IsProjected finished n kind x
    × (IsProjected finished n kind (negated x) → IsTrue (leads_negative x) → ⊥)
IsTaken Hilbert finished n kind x = IsProjected finished n kind x
IsTaken Zsolve finished n kind x = IsProjected finished n kind x

-- the one list of the rows that are written, in lexicographic order
abbrev pub IsSelected : ToolSystem → List (List ℤ) → Kind → List (List ℤ) → Type 0
IsSelected system finished kind rows =
    IsListOf lex_cmp (IsTaken system.tool finished system.n (kind_of kind)) rows

-- the grid of rows of n entries
abbrev pub grid_of : ℕ → List (List ℤ) → Matrix
grid_of n rows = record { rows = length rows; cols = n; cells = flat_map (λ row. row) rows }

-- the grid has the selected rows, each of n entries
pub record IsSelection (system : ToolSystem) (finished : List (List ℤ)) (kind : Kind)
    (grid : Matrix) : Type 0 where
  pub rows : List (List ℤ)
  pub selected : IsSelected system finished kind rows
  pub lengths : AllByRecursion (λ row. length row ≡ system.n) rows
  pub grid_is : grid ≡ grid_of system.n rows

-- the text of rows of n entries: the two counts, and a line for each row
abbrev pub text_of_rows : ℕ → List (List ℤ) → List ℕ
text_of_rows n rows = head_of (length rows) n ++ flat_map line_of rows
