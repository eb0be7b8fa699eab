-- Laws over the definitions alone.
use Rattle.std.specs.Prelude.{◌≡◌, ℕ, ℤ, List, length}
use Rattle.std.specs.List.{AllByRecursion}
use Rattle.mat_files.specs.Printed.{text_of}
use Rattle.lift_core.specs.declared.Tool.TheVariants.{Graver}
use Rattle.lift_core.specs.Systems.{ToolSystem}
use Rattle.lift_core.specs.Ends.{IsSolutionList}
use Rattle.lift_core.specs.Inside.Written.{IsWanted, IsWantedGraver}
use Rattle.solution_files.specs.declared.selection.Kind.{Kind}
use Rattle.solution_files.specs.declared.selection.Kind.TheVariants.{All}
use Rattle.solution_files.specs.Outputs.{kind_of, IsSelected, grid_of, text_of_rows}

-- the finished rows are the minimal solutions of all equations
abbrev pub AreAllSolutions : ToolSystem → List (List ℤ) → Type 0
AreAllSolutions system finished =
    IsSolutionList system.equations (length system.equations.rows) finished

-- for `hilbert` and `zsolve`, what is selected from all minimal solutions is the list that is wanted
abbrev pub SelectedAreWanted : Type 0
SelectedAreWanted =
    (system : ToolSystem) (finished : List (List ℤ)) (kind : Kind) (rows : List (List ℤ))
    → (system.tool ≡ Graver → ⊥)
    → AreAllSolutions system finished → IsSelected system finished kind rows
    → IsWanted system.equations system.n (kind_of kind) rows

-- and for `graver`
abbrev pub SelectedAreWantedGraver : Type 0
SelectedAreWantedGraver =
    (system : ToolSystem) (finished : List (List ℤ)) (rows : List (List ℤ)) → system.tool ≡ Graver
    → AreAllSolutions system finished → IsSelected system finished All rows
    → IsWantedGraver system.equations system.n rows

-- the text of the grid is the text of its rows
abbrev pub GridsAreRows : Type 0
GridsAreRows =
    (n : ℕ) (rows : List (List ℤ))
    → AllByRecursion (λ row. length row ≡ n) rows
    → text_of (grid_of n rows) ≡ text_of_rows n rows
