-- A path as it is kept: its point, and the cells of its steps.
use Rattle.std.specs.Prelude.{◌≡◌, ◌+◌, ◌≤◌, ℕ, List, [], ◌∷◌, ℤ, length, Result, Ok, Err}
use Rattle.std.specs.List.{AllByRecursion, flat_map}
use Rattle.int_vector.specs.Range.{InRange}
use Rattle.system_files.specs.Kernel.{rows_in}
use Rattle.mat_files.specs.Cells.{Matrix}
use Rattle.solution_files.specs.Outputs.{grid_of}
use Rattle.climb_tool.specs.declared.ends.Reached.{Reached}
use Rattle.climb_tool.specs.declared.ends.Stop.{Stop}
use Rattle.climb_tool.specs.declared.ends.Stop.TheVariants.{Usage, File, Shape, CostRange, UpperRange, Infeasible, NotKernel, Steps, Outside, Memory}
use Rattle.climb_tool.specs.declared.problems.Problem.{Problem}
use Rattle.climb_tool.specs.declared.climbing.Path.{Path}
use Rattle.climb_tool.specs.Ends.{reached_at}
use Rattle.climb_tool.specs.Paths.{IsWithinBounds, NoneHelps, candidates, Step, step_rows, IsPath, IsFirstToHelp}

-- these steps lead from the start to the point, and these are their cells
pub record IsWalk (p : Problem) (steps : List Step) (path : Path) : Type 0 where
  pub leads : IsPath p.upper.cells p.cost.cells (rows_in p.set) p.start.cells steps path.point.items
  pub within : IsWithinBounds p.upper.cells path.point.items
  pub cells : path.cells.items ≡ flat_map (λ row. row) (step_rows steps)
  pub count : path.count ≡ length steps
  pub lengths : AllByRecursion (λ row. length row ≡ p.mat.cols + 1) (step_rows steps)
  pub small : AllByRecursion InRange path.cells.items

-- some steps lead to the point
abbrev pub IsWalked : Problem → Path → Type 0
IsWalked p path = (steps : List Step) × IsWalk p steps path

-- no candidate helps at x, or one does
abbrev pub NoneHelpsAt : Problem → List ℤ → Type 0
NoneHelpsAt p x = NoneHelps p.upper.cells p.cost.cells x (candidates (rows_in p.set))

abbrev pub OneHelpsAt : Problem → List ℤ → Type 0
OneHelpsAt p x =
    (g : List ℤ) × IsFirstToHelp p.upper.cells p.cost.cells x (candidates (rows_in p.set)) g

-- what a walk of at most so many steps comes to
abbrev pub Climbed : Problem → ℕ → Result Path Stop → Type 0
Climbed p budget (Ok path) =
    IsWalked p path × NoneHelpsAt p path.point.items × (path.count ≤ budget)
Climbed p budget (Err (Steps done)) =
    (path : Path)
    × IsWalked p path
    × OneHelpsAt p path.point.items
    × (path.count ≡ budget)
    × (done ≡ budget)
Climbed p budget (Err Memory) = Unit {0}
Climbed p budget (Err Usage) = ⊥
Climbed p budget (Err (File f fault)) = ⊥
Climbed p budget (Err (Shape f rows cols)) = ⊥
Climbed p budget (Err (CostRange j)) = ⊥
Climbed p budget (Err (UpperRange j)) = ⊥
Climbed p budget (Err (Infeasible j)) = ⊥
Climbed p budget (Err (NotKernel row)) = ⊥
Climbed p budget (Err Outside) = ⊥

-- the matrices of the last point and of the steps of a walk, and what is told
pub record IsLaidOut (p : Problem) (path : Path) (opt steps : Matrix) (reached : Reached)
    : Type 0 where
  pub taken : List Step
  pub walk : IsWalk p taken path
  pub opt_is : opt ≡ grid_of p.mat.cols (path.point.items ∷ [])
  pub steps_is : steps ≡ grid_of (p.mat.cols + 1) (step_rows taken)
  pub reached_is : reached ≡ reached_at p taken path.point.items
