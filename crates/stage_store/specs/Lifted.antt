-- What `first` and `lift` answer: the stage that begins, or the finish.
use Rattle.std.specs.Prelude.{◌≡◌, ℕ, ◌+◌, ◌≤◌, ◌<◌, List, [], ℤ, map, length, Some, None, Result, Ok, Err}
use Rattle.std.specs.List.{find}
use Rattle.lift_core.specs.Systems.{ToolSystem, row}
use Rattle.lift_core.specs.ToolSystems.{width}
use Rattle.lift_core.specs.Stages.{extend}
use Rattle.lift_core.specs.Ends.{leaves_range, IsSolutionList}
use Rattle.lift_core.specs.Walks.{solutions_in}
use Rattle.row_pool.specs.Rows.{PoolValue}
use Rattle.stage_store.specs.Stage.{StageValue, IsDefined, used_of}
use Rattle.stage_store.specs.declared.stage.Finish.{Finish}
use Rattle.stage_store.specs.declared.stage.Lifted.{Lifted}
use Rattle.stage_store.specs.declared.stage.Lifted.TheVariants.{Next, Last}
use Rattle.stage_store.specs.declared.stage.LiftEnd.{LiftEnd}
use Rattle.stage_store.specs.declared.stage.LiftEnd.TheVariants.{Overflow, Memory}

-- stage k at norm 0: nothing is listed, and the solutions of the rows before row k wait, each with its product with row k
pub record IsStart (S : ToolSystem) (k used : ℕ) (solutions : List (List ℤ))
    (s : StageValue) : Type 0 where
  pub system : s.system ≡ S
  pub number : s.number ≡ k
  pub norm : s.norm ≡ 0
  pub before : s.before ≡ used
  pub listed : s.listed ≡ []
  pub waiting : s.waiting ≡ map (extend (row S.equations k)) solutions

-- the solutions, with the pairs that were used
pub record IsFinish (S : ToolSystem) (used : ℕ) (solutions : List (List ℤ))
    (f : Finish) : Type 0 where
  pub system : f.system ≡ S
  pub width_is : f.rows.width ≡ width S.equations
  pub rows_are : f.rows.rows ≡ solutions
  pub pairs_are : f.pairs ≡ used

-- with the solutions of the rows before row k: stage k, where there is a row k, and else the finish
abbrev pub StartsAt : ToolSystem → ℕ → ℕ → List (List ℤ) → Lifted → Type 0
StartsAt S k used solutions (Next s) =
    (k ≤ length S.equations.rows) × (find (leaves_range (row S.equations k)) solutions ≡ None)
    × IsStart S k used solutions s
StartsAt S k used solutions (Last f) = (length S.equations.rows < k) × IsFinish S used solutions f

-- the same, or the first solution whose product with row k leaves the range
abbrev pub StartsOr : ToolSystem → ℕ → ℕ → List (List ℤ) → Result Lifted LiftEnd → Type 0
StartsOr S k used solutions (Ok l) = StartsAt S k used solutions l
StartsOr S k used solutions (Err (Overflow stage first)) =
    (k ≤ length S.equations.rows) × (stage ≡ k)
    × (find (leaves_range (row S.equations k)) solutions ≡ Some first)
StartsOr S k used solutions (Err Memory) = Unit {0}

-- each solution with its product with row k, and no product leaves the range
pub record AreExtended (S : ToolSystem) (k : ℕ) (solutions : List (List ℤ))
    (rows : PoolValue) : Type 0 where
  pub width_is : rows.width ≡ width S.equations + 1
  pub rows_are : rows.rows ≡ map (extend (row S.equations k)) solutions
  pub fit : find (leaves_range (row S.equations k)) solutions ≡ None

-- the same, or the first solution whose product leaves the range
abbrev pub ExtendsOr : ToolSystem → ℕ → List (List ℤ) → Result PoolValue LiftEnd → Type 0
ExtendsOr S k solutions (Ok rows) = AreExtended S k solutions rows
ExtendsOr S k solutions (Err (Overflow stage first)) =
    (stage ≡ k) × (find (leaves_range (row S.equations k)) solutions ≡ Some first)
ExtendsOr S k solutions (Err Memory) = Unit {0}

-- from a system: its first stage, with the minimal solutions of no rows, or the finish with these
pub record IsFirst (S : ToolSystem) (l : Lifted) : Type 0 where
  pub solutions : List (List ℤ)
  pub minimal : IsSolutionList S.equations 0 solutions
  pub starts : StartsAt S 1 0 solutions l

-- from a stage: what begins with its solutions, the rows with last entry 0 without it
abbrev pub IsLift : StageValue → Result Lifted LiftEnd → Type 0
IsLift s l = StartsOr s.system (s.number + 1) (used_of s) (solutions_in s.listed) l

-- the lists of the stage, or the rows of the finish, are the defined ones
abbrev pub IsLiftedDefined : Lifted → Type 0
IsLiftedDefined (Next s) = IsDefined s
IsLiftedDefined (Last f) =
    IsSolutionList f.system.equations (length f.system.equations.rows) f.rows.rows
