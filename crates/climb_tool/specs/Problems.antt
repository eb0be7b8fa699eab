-- What the files say: the matrix, the set, the costs, the bounds and the start, or the first fault.
use Rattle.std.specs.Prelude.{◌≡◌, ◌+◌, ◌*◌, ◌≤◌, ℕ, ◌==◌, ◌&&◌, ◌||◌, not, nat_le, nat_abs, int_lt, Bool, true, false, if◌then◌else◌, List}
use Rattle.std.specs.Prelude.{[], ◌∷◌, ◌++◌, length, map, ℤ, pos, Option, None, Some, Result, Ok, Err}
use Rattle.std.specs.List.{AllByRecursion}
use Rattle.std.specs.FinMap.{get}
use Rattle.outside.specs.Files.{Files}
use Rattle.int_vector.specs.Range.{InRange}
use Rattle.mat_files.specs.Cells.{Matrix}
use Rattle.mat_files.specs.Tables.{◌>>=◌}
use Rattle.system_files.specs.Files.{grid_in}
use Rattle.system_files.specs.declared.faults.FileFault.{FileFault}
use Rattle.system_files.specs.declared.faults.FileEnd.{FileEnd}
use Rattle.system_files.specs.declared.faults.FileEnd.TheVariants as file
use Rattle.tool_frame.specs.declared.wordings.Limits.{Limits}
use Rattle.climb_tool.specs.declared.ends.ClimbFile.{ClimbFile}
use Rattle.climb_tool.specs.declared.ends.ClimbFile.TheVariants.{Mat, Gra, Cost, Upper, Start}
use Rattle.climb_tool.specs.declared.ends.Stop.{Stop}
use Rattle.climb_tool.specs.declared.ends.Stop.TheVariants.{Usage, File, Shape, CostRange, UpperRange, Infeasible, NotKernel, Steps, Outside, Memory}
use Rattle.climb_tool.specs.declared.problems.Problem.{Problem}
use Rattle.climb_tool.specs.Endings.{ending}
use Rattle.climb_tool.specs.Paths.{IsWithinBounds}
use Rattle.climb_tool.specs.Commands.{Command, command_in}

-- ---- the files
-- the most bytes, rows and columns of a file
abbrev pub limits_of : ClimbFile → Limits
limits_of Mat = record { bytes = 4194304; rows = 64; cols = 64 }
limits_of Gra = record { bytes = 268435456; rows = 2097152; cols = 64 }
limits_of Cost = record { bytes = 4194304; rows = 64; cols = 64 }
limits_of Upper = record { bytes = 4194304; rows = 64; cols = 64 }
limits_of Start = record { bytes = 4194304; rows = 64; cols = 64 }

-- the fault of a file, with the file
abbrev pub at : {C : Type 0} → ClimbFile → Result C FileFault → Result C Stop
at f (Ok x) = Ok x
at f (Err fault) = Err (File f fault)

abbrev pub placed : {C : Type 0} → ClimbFile → Result C FileEnd → Result C Stop
placed f (Ok x) = Ok x
placed f (Err (file.Bad fault)) = Err (File f fault)
placed f (Err file.Failed) = Err Outside
placed f (Err file.Memory) = Err Memory

-- the matrix in the project's file
abbrev pub matrix_in : List ℕ → ClimbFile → Files → Result Matrix Stop
matrix_in project f files =
    at f (grid_in (limits_of f).bytes (limits_of f).rows (limits_of f).cols
    (get files (project ++ ending f)))

-- the five files in their order
abbrev pub files_in : List ℕ → Files → Result Problem Stop
files_in project files = do
  mat ← matrix_in project Mat files
  set ← matrix_in project Gra files
  cost ← matrix_in project Cost files
  upper ← matrix_in project Upper files
  start ← matrix_in project Start files
  Ok (record { mat = mat; set = set; cost = cost; upper = upper; start = start })

-- ---- shapes
abbrev pub has_columns : Matrix → ℕ → Bool
has_columns m n = m.cols == n

abbrev pub is_row : Matrix → ℕ → Bool
is_row m n = (m.rows == 1) && (m.cols == n)

-- the shape of a file, where it is not as it has to be
abbrev pub unless : Bool → ClimbFile → Matrix → Result (Unit {0}) Stop
unless true f m = Ok tt
unless false f m = Err (Shape f m.rows m.cols)

-- the set has as many columns as the matrix, and so has each of the others, with one row
abbrev pub shapes : Problem → Result (Unit {0}) Stop
shapes p = do
  set ← unless (has_columns p.set p.mat.cols) Gra p.set
  cost ← unless (is_row p.cost p.mat.cols) Cost p.cost
  upper ← unless (is_row p.upper p.mat.cols) Upper p.upper
  unless (is_row p.start p.mat.cols) Start p.start

-- ---- numbers
-- above 2^56 in absolute value
abbrev pub is_large : ℤ → Bool
is_large c = not (nat_le (nat_abs c) 72057594037927936)

abbrev pub is_negative : ℤ → Bool
is_negative a = int_lt a (pos 0)

abbrev pub is_outside : ℤ → ℤ → Bool
is_outside u a = is_negative a || int_lt u a

-- which columns of x are below 0 or above their bound
abbrev pub outside_bounds : List ℤ → List ℤ → List Bool
outside_bounds [] x = []
outside_bounds (u ∷ upper) [] = []
outside_bounds (u ∷ upper) (a ∷ x) = is_outside u a ∷ outside_bounds upper x

-- the first column of which this is true, where the columns are counted from j
abbrev pub first_from : ℕ → List Bool → Option ℕ
first_from j [] = None
first_from j (b ∷ bs) = if b then Some j else first_from (j + 1) bs

abbrev pub first_true : List Bool → Option ℕ
first_true bs = first_from 1 bs

abbrev pub unless_column : Option ℕ → (ℕ → Stop) → Result (Unit {0}) Stop
unless_column None stop = Ok tt
unless_column (Some j) stop = Err (stop j)

-- the costs are small, no bound is negative, and the start is within the bounds
abbrev pub numbers : Problem → Result (Unit {0}) Stop
numbers p = do
  cost ← unless_column (first_true (map is_large p.cost.cells)) CostRange
  upper ← unless_column (first_true (map is_negative p.upper.cells)) UpperRange
  unless_column (first_true (outside_bounds p.upper.cells p.start.cells)) Infeasible

abbrev pub accepted : Problem → Result (Unit {0}) Stop
accepted p = do
  fits ← shapes p
  numbers p

abbrev pub problem_in : List ℕ → Files → Result Problem Stop
problem_in project files = do
  p ← files_in project files
  stands ← accepted p
  Ok p

-- the set has as many columns as the matrix, and so has each of the others
pub record HasShapes (p : Problem) : Type 0 where
  pub wide : 1 ≤ p.mat.cols
  pub set : p.mat.cols ≡ p.set.cols
  pub rows : length p.set.cells ≡ p.set.rows * p.set.cols
  pub cost : length p.cost.cells ≡ p.mat.cols
  pub upper : length p.upper.cells ≡ p.mat.cols
  pub start : length p.start.cells ≡ p.mat.cols
  pub range : AllByRecursion InRange p.upper.cells

-- and the costs are at most 2^56, and the start is a point within the bounds
pub record IsProblem (p : Problem) : Type 0 where
  pub few : p.mat.cols ≤ 64
  pub shapes : HasShapes p
  pub small : AllByRecursion (λ c. nat_abs c ≤ 72057594037927936) p.cost.cells
  pub feasible : IsWithinBounds p.upper.cells p.start.cells

-- ---- the plan
-- the command, and what the files say
pub record Plan : Type 0 where
  pub project : List ℕ
  pub budget : ℕ
  pub problem : Problem

abbrev pub usage : Option Command → Result Command Stop
usage None = Err Usage
usage (Some command) = Ok command

-- the first answer, or the plan of the run
abbrev pub planned : List (List ℕ) → Files → Result Plan Stop
planned words files = do
  command ← usage (command_in words)
  problem ← problem_in command.project files
  Ok (record { project = command.project; budget = command.budget; problem = problem })

-- the step's answer is the expected one; a device's fault and running out of memory come by
-- themselves
abbrev pub FailsAs : {A : Type 0} → Stop → Result A Stop → Type 0
FailsAs Usage expected = expected ≡ Err Usage
FailsAs (File f fault) expected = expected ≡ Err (File f fault)
FailsAs (Shape f rows cols) expected = expected ≡ Err (Shape f rows cols)
FailsAs (CostRange j) expected = expected ≡ Err (CostRange j)
FailsAs (UpperRange j) expected = expected ≡ Err (UpperRange j)
FailsAs (Infeasible j) expected = expected ≡ Err (Infeasible j)
FailsAs (NotKernel row) expected = ⊥
FailsAs (Steps done) expected = ⊥
FailsAs Outside expected = Unit {0}
FailsAs Memory expected = Unit {0}

abbrev pub Finds : {A : Type 0} → Result A Stop → Result A Stop → Type 0
Finds (Ok x) expected = expected ≡ Ok x
Finds (Err stop) expected = FailsAs stop expected
