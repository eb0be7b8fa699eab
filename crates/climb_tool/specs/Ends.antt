-- How a run ends, what it leaves, and what it says.
use Rattle.std.specs.Prelude.{◌≡◌, ◌⊎◌, ◌≤◌, ◌+◌, ℕ, ℤ, List, [], ◌∷◌, ◌++◌, length, Option, None, Some, Result, Ok, Err, codes, decimal}
use Rattle.std.specs.Fmt.{signed_decimal}
use Rattle.outside.specs.Causes.{Rose}
use Rattle.outside.specs.Pieces.{text_of_parts, MayPut}
use Rattle.outside.specs.declared.ends.PutEnd.{PutEnd}
use Rattle.outside.specs.declared.ends.PutEnd.TheVariants as put
use Rattle.std.specs.Option.{option_map}
use Rattle.std.specs.Io.KnownBytes.{append_known}
use Rattle.outside.specs.Files.{Files}
use Rattle.int_vector.specs.Vectors.{dot}
use Rattle.mat_files.specs.Cells.{Matrix}
use Rattle.mat_files.specs.Printed.{text_of}
use Rattle.solution_files.specs.Outputs.{written, text_of_rows}
use Rattle.system_files.specs.Kernel.{rows_in, FirstOutside}
use Rattle.system_files.specs.Basis.{IsGraverBasis}
use Rattle.tool_frame.specs.Wordings.{plain, with_number, fault_text, shape_text, message_in}
use Rattle.tool_frame.specs.Outputs.{OutputFile, Traces, IsCut, IsUntouched, IsWhole, IsPartly}
use Rattle.climb_tool.specs.declared.ends.ClimbEnd.{ClimbEnd}
use Rattle.climb_tool.specs.declared.ends.ClimbEnd.TheVariants as end
use Rattle.climb_tool.specs.declared.ends.ClimbFile.TheVariants.{Gra, Cost, Upper, Start}
use Rattle.climb_tool.specs.declared.ends.Stop.{Stop}
use Rattle.climb_tool.specs.declared.ends.Stop.TheVariants.{Usage, File, Shape, CostRange, UpperRange, Infeasible, NotKernel, Steps, Outside, Memory}
use Rattle.climb_tool.specs.declared.ends.Reached.{Reached}
use Rattle.climb_tool.specs.declared.problems.Problem.{Problem}
use Rattle.climb_tool.specs.Paths.{Step, step_rows, IsPath, IsFalling, NoneHelps, IsFirstToHelp, candidates, IsOptimalFrom}
use Rattle.climb_tool.specs.Endings.{ending}
use Rattle.climb_tool.specs.Problems.{Plan, limits_of}

-- the exit status
abbrev pub code_of : ClimbEnd → ℕ
code_of (end.Done cost steps) = 0
code_of end.Usage = 1
code_of (end.File f fault) = 2
code_of (end.Shape f) = 2
code_of (end.CostRange j) = 2
code_of (end.UpperRange j) = 2
code_of (end.Infeasible j) = 2
code_of (end.NotKernel row) = 2
code_of (end.Steps done) = 4
code_of end.Outside = 5
code_of end.Memory = 6

-- the end of a run
abbrev pub end_of : Result Reached Stop → ClimbEnd
end_of (Ok reached) = end.Done reached.cost reached.steps
end_of (Err Usage) = end.Usage
end_of (Err (File f fault)) = end.File f fault
end_of (Err (Shape f rows cols)) = end.Shape f
end_of (Err (CostRange j)) = end.CostRange j
end_of (Err (UpperRange j)) = end.UpperRange j
end_of (Err (Infeasible j)) = end.Infeasible j
end_of (Err (NotKernel row)) = end.NotKernel row
end_of (Err (Steps done)) = end.Steps done
end_of (Err Outside) = end.Outside
end_of (Err Memory) = end.Memory

abbrev pub stop_of : PutEnd → Stop
stop_of put.Failed = Outside
stop_of put.Memory = Memory

-- ---- the line on standard error
-- the file that it speaks of, by its ending
abbrev pub place_of : Stop → Option (List ℕ)
place_of Usage = None
place_of (File f fault) = Some (ending f)
place_of (Shape f rows cols) = Some (ending f)
place_of (CostRange j) = Some (ending Cost)
place_of (UpperRange j) = Some (ending Upper)
place_of (Infeasible j) = Some (ending Start)
place_of (NotKernel row) = Some (ending Gra)
place_of (Steps done) = None
place_of Outside = None
place_of Memory = None

-- what is said
abbrev pub said_of : Stop → List (List ℕ)
said_of Usage = plain (codes "usage: climb [--steps=N] PROJECT")
said_of (File f fault) = fault_text (limits_of f) fault
said_of (Shape f rows cols) = shape_text rows cols
said_of (CostRange j) = with_number (codes "column ") j (codes ": out of range")
said_of (UpperRange j) = with_number (codes "column ") j (codes ": out of range")
said_of (Infeasible j) = with_number (codes "column ") j (codes ": not feasible")
said_of (NotKernel row) = with_number (codes "row ") row (codes ": not in the kernel")
said_of (Steps done) = with_number (codes "step budget spent after ") done (codes " steps")
said_of Outside = plain (codes "device failure")
said_of Memory = plain (codes "out of memory")

abbrev pub message_of : List ℕ → Stop → List ℕ
message_of project stop = message_in (codes "climb") project (place_of stop) (said_of stop)

-- nothing is said where all is done, and else the line or a prefix of it
abbrev pub Says : List ℕ → Result Reached Stop → Option (List ℕ) → Option (List ℕ) → Type 0
Says project (Ok reached) old new = new ≡ old
Says project (Err stop) old new = MayPut (message_of project stop) old new

-- ---- what is written and told
-- the summary on standard output
abbrev pub summary_of : Reached → List ℕ
summary_of reached =
    text_of_parts (codes "cost " ∷ signed_decimal reached.cost ∷ codes ", "
    ∷ decimal reached.steps ∷ codes " steps\n" ∷ [])

-- the file of the last point, and that of the steps
abbrev pub output_of : ℕ → List ℤ → List Step → List OutputFile
output_of n point steps =
    record { ending = codes ".opt"; text = text_of_rows n (point ∷ []) }
    ∷ record { ending = codes ".steps"; text = text_of_rows (n + 1) (step_rows steps) } ∷ []

-- each row of the set is in the kernel of the matrix
abbrev pub AreInKernel : Problem → Type 0
AreInKernel p = FirstOutside (rows_in p.mat) (rows_in p.set) None

-- these are at most so many steps, which lead from the start to a point at which no candidate
-- helps, and each lowers the cost; where the set is the Graver basis of the matrix, no feasible
-- point has a lower cost
pub record IsClimb (p : Problem) (budget : ℕ) (steps : List Step) (point : List ℤ) : Type 0 where
  pub kernel : AreInKernel p
  pub path : IsPath p.upper.cells p.cost.cells (rows_in p.set) p.start.cells steps point
  pub few : length steps ≤ budget
  pub stuck : NoneHelps p.upper.cells p.cost.cells point (candidates (rows_in p.set))
  pub falls : IsFalling p.cost.cells p.start.cells steps
  pub optimal : IsGraverBasis p.mat (rows_in p.set)
      → IsOptimalFrom (rows_in p.mat) p.upper.cells p.cost.cells p.start.cells point

-- as many steps as may be taken lead from the start to a point at which a candidate still helps
pub record IsSpent (p : Problem) (budget done : ℕ) : Type 0 where
  pub kernel : AreInKernel p
  pub all : done ≡ budget
  pub steps : List Step
  pub point : List ℤ
  pub path : IsPath p.upper.cells p.cost.cells (rows_in p.set) p.start.cells steps point
  pub count : length steps ≡ done
  pub next : List ℤ
  pub helps : IsFirstToHelp p.upper.cells p.cost.cells point (candidates (rows_in p.set)) next

-- what is told of a path
abbrev pub reached_at : Problem → List Step → List ℤ → Reached
reached_at p steps point = record { cost = dot p.cost.cells point; steps = length steps }

-- the last point and the steps are written, and the cost and the number of steps are told
pub record IsDone (project : List ℕ) (p : Problem) (budget : ℕ) (t : Traces) (reached : Reached)
    : Type 0 where
  pub steps : List Step
  pub point : List ℤ
  pub climb : IsClimb p budget steps point
  pub told : reached ≡ reached_at p steps point
  pub whole : IsWhole project (output_of p.mat.cols point steps) (summary_of reached) t

-- the writing of these, or the telling, was cut
pub record IsCutShort (project : List ℕ) (p : Problem) (budget : ℕ) (t : Traces) : Type 0 where
  pub steps : List Step
  pub point : List ℤ
  pub climb : IsClimb p budget steps point
  pub part : IsPartly project (output_of p.mat.cols point steps)
      (summary_of (reached_at p steps point)) t

abbrev pub MayLeave : List ℕ → Problem → ℕ → Traces → Type 0
MayLeave project p budget t = IsUntouched t ⊎ IsCutShort project p budget t

-- what the run of a problem comes to
abbrev pub EndsWith : List ℕ → Problem → ℕ → Traces → Result Reached Stop → Type 0
EndsWith project p budget t (Ok reached) = IsDone project p budget t reached
EndsWith project p budget t (Err (NotKernel row)) =
    FirstOutside (rows_in p.mat) (rows_in p.set) (Some row) × IsUntouched t
EndsWith project p budget t (Err (Steps done)) = IsSpent p budget done × IsUntouched t
EndsWith project p budget t (Err Outside) = MayLeave project p budget t
EndsWith project p budget t (Err Memory) = MayLeave project p budget t
EndsWith project p budget t (Err Usage) = ⊥
EndsWith project p budget t (Err (File f fault)) = ⊥
EndsWith project p budget t (Err (Shape f rows cols)) = ⊥
EndsWith project p budget t (Err (CostRange j)) = ⊥
EndsWith project p budget t (Err (UpperRange j)) = ⊥
EndsWith project p budget t (Err (Infeasible j)) = ⊥

-- the end is the one that the words and the files decide, and this is what stands then; a device's
-- fault and running out of memory come by themselves
abbrev pub Ends : Result Plan Stop → Traces → Result Reached Stop → Type 0
Ends plan t (Ok reached) =
    (p : Plan) × (plan ≡ Ok p) × IsDone p.project p.problem p.budget t reached
Ends plan t (Err (NotKernel row)) =
    (p : Plan)
    × (plan ≡ Ok p)
    × FirstOutside (rows_in p.problem.mat) (rows_in p.problem.set) (Some row)
    × IsUntouched t
Ends plan t (Err (Steps done)) =
    (p : Plan) × (plan ≡ Ok p) × IsSpent p.problem p.budget done × IsUntouched t
Ends plan t (Err Usage) = (plan ≡ Err Usage) × IsUntouched t
Ends plan t (Err (File f fault)) = (plan ≡ Err (File f fault)) × IsUntouched t
Ends plan t (Err (Shape f rows cols)) = (plan ≡ Err (Shape f rows cols)) × IsUntouched t
Ends plan t (Err (CostRange j)) = (plan ≡ Err (CostRange j)) × IsUntouched t
Ends plan t (Err (UpperRange j)) = (plan ≡ Err (UpperRange j)) × IsUntouched t
Ends plan t (Err (Infeasible j)) = (plan ≡ Err (Infeasible j)) × IsUntouched t
Ends plan t (Err Outside) =
    IsUntouched t ⊎ ((p : Plan) × (plan ≡ Ok p) × IsCutShort p.project p.problem p.budget t)
Ends plan t (Err Memory) =
    IsUntouched t ⊎ ((p : Plan) × (plan ≡ Ok p) × IsCutShort p.project p.problem p.budget t)

-- ---- answers
-- the files of these matrices
abbrev pub grid_files : Matrix → Matrix → List OutputFile
grid_files opt steps =
    record { ending = codes ".opt"; text = text_of opt }
    ∷ record { ending = codes ".steps"; text = text_of steps } ∷ []

abbrev pub both_written : List ℕ → Matrix → Matrix → Option Files → Option Files
both_written project opt steps old =
    option_map (written (project ++ codes ".steps") (text_of steps))
    (option_map (written (project ++ codes ".opt") (text_of opt)) old)

-- the summary was put, or a prefix of it
abbrev pub Told : Reached → Option (List ℕ) → Option (List ℕ) → Result Reached Stop → Type 0
Told reached old new (Ok r) = (r ≡ reached) × (new ≡ append_known old (summary_of reached))
Told reached old new (Err Outside) = MayPut (summary_of reached) old new
Told reached old new (Err Memory) = MayPut (summary_of reached) old new
Told reached old new (Err Usage) = ⊥
Told reached old new (Err (File f fault)) = ⊥
Told reached old new (Err (Shape f rows cols)) = ⊥
Told reached old new (Err (CostRange j)) = ⊥
Told reached old new (Err (UpperRange j)) = ⊥
Told reached old new (Err (Infeasible j)) = ⊥
Told reached old new (Err (NotKernel row)) = ⊥
Told reached old new (Err (Steps done)) = ⊥

-- both are written and told, or one of these was cut
abbrev pub Cut : List ℕ → Matrix → Matrix → Reached → Option Files → Option Files → Option (List ℕ)
    → Option (List ℕ) → Type 0
Cut project opt steps reached old new out out' =
    (IsCut project (grid_files opt steps) old new × (out' ≡ out))
    ⊎ ((new ≡ both_written project opt steps old) × MayPut (summary_of reached) out out')

abbrev pub Published : List ℕ → Matrix → Matrix → Reached → Option Files → Option Files
    → Option (List ℕ) → Option (List ℕ) → Result Reached Stop → Type 0
Published project opt steps reached old new out out' (Ok r) =
    (r ≡ reached)
    × (new ≡ both_written project opt steps old)
    × (out' ≡ append_known out (summary_of reached))
Published project opt steps reached old new out out' (Err Outside) =
    Cut project opt steps reached old new out out'
Published project opt steps reached old new out out' (Err Memory) =
    Cut project opt steps reached old new out out'
Published project opt steps reached old new out out' (Err Usage) = ⊥
Published project opt steps reached old new out out' (Err (File f fault)) = ⊥
Published project opt steps reached old new out out' (Err (Shape f rows cols)) = ⊥
Published project opt steps reached old new out out' (Err (CostRange j)) = ⊥
Published project opt steps reached old new out out' (Err (UpperRange j)) = ⊥
Published project opt steps reached old new out out' (Err (Infeasible j)) = ⊥
Published project opt steps reached old new out out' (Err (NotKernel row)) = ⊥
Published project opt steps reached old new out out' (Err (Steps done)) = ⊥

-- the counts have not fallen, and a device's fault is answered only where one of them rose
pub record HasCause {T : Type 0} (before now : ℕ) (result : Result T Stop) : Type 0 where
  pub later : before ≤ now
  pub failed : result ≡ Err Outside → Rose before now

pub record HasCauses (files_before files_now out_before out_now : ℕ) (result : Result Reached Stop)
    : Type 0 where
  pub files_later : files_before ≤ files_now
  pub out_later : out_before ≤ out_now
  pub failed : result ≡ Err Outside → Rose files_before files_now ⊎ Rose out_before out_now
