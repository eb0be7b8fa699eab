-- What a command is to do: the first answer that fits, or the plan of its run.
use Rattle.std.specs.Prelude.{ℕ, ◌&&◌, is_none, IsSome, Bool, List, [], Option, None, Some, Result, Ok, Err, unwrap_or}
use Rattle.outside.specs.Files.{Files}
use Rattle.lift_core.specs.Systems.{ToolSystem}
use Rattle.lift_core.specs.declared.Tool.{Tool}
use Rattle.system_shape.specs.Problem.{UserSystem}
use Rattle.system_shape.specs.Shape.{user_system, tool_system, shape_fault}
use Rattle.system_shape.specs.Tables.{tables_input}
use Rattle.system_shape.specs.declared.files.Input.{Input}
use Rattle.system_files.specs.declared.sources.Source.{Source}
use Rattle.system_files.specs.declared.sources.Source.TheVariants as source
use Rattle.system_files.specs.declared.faults.FileFault.TheVariants as file_fault
use Rattle.system_files.specs.declared.faults.InputFault.{InputFault}
use Rattle.system_files.specs.declared.faults.InputFault.TheVariants as input_fault
use Rattle.mat_files.specs.Tables.{◌>>=◌}
use Rattle.system_files.specs.Inputs.{unless_fault, accepted_in}
use Rattle.tool_words.specs.Jobs.{job_of}
use Rattle.backups.specs.declared.starts.Slot.{Slot}
use Rattle.backups.specs.declared.starts.Slot.TheVariants.{First, Second}
use Rattle.backups.specs.Starts.{Stored, stored_in}
use Rattle.tool_words.specs.declared.jobs.Job.{Job}
use Rattle.tool_top.specs.declared.ends.Part.{Part}
use Rattle.tool_top.specs.declared.ends.Part.TheVariants.{Mat, Sign, Rel, Rhs, Cap, Lat, Lb, Ub, Ckp0, Ckp1}
use Rattle.tool_top.specs.declared.ends.End.{End}
use Rattle.tool_top.specs.declared.ends.End.TheVariants.{Usage, Missing, TooLong, Text, Refused, Shape}
use Rattle.tool_top.specs.Names.{file_name}

-- what the words ask for, the tool, what the project's files say, and what stands in its restart files
pub record Plan : Type 0 where
  pub job : Job
  pub tool : Tool
  pub input : Input
  pub stored : Stored

-- the user's own system, and the linear system with slacks that stands for it
abbrev pub user_of : Plan → UserSystem
user_of p = user_system p.tool p.input

abbrev pub system_of_plan : Plan → ToolSystem
system_of_plan p = tool_system p.tool p.input

-- the project's name, empty where there is none
abbrev pub project_of : Job → List ℕ
project_of job = unwrap_or job.project []

-- the words ask for tables
abbrev pub HasTables : Option Job → Type 0
HasTables None = ⊥
HasTables (Some job) = IsSome job.tables

-- the project of the words, empty where they name none
abbrev pub named_project : Option Job → List ℕ
named_project None = []
named_project (Some job) = project_of job

-- the run goes on from a restart file; with tables there is none
abbrev pub resumes : Job → Bool
resumes job = is_none job.tables && job.resume

-- after how many closed norms a backup is written; with tables there is none
abbrev pub interval_for : Option ℕ → Option ℕ → Option ℕ
interval_for None backup = backup
interval_for (Some k) backup = None

-- the restart files, as parts of the project
abbrev pub part_of_slot : Slot → Part
part_of_slot First = Ckp0
part_of_slot Second = Ckp1

abbrev pub stored_of : List ℕ → Files → Stored
stored_of project files = stored_in (file_name project Ckp0) (file_name project Ckp1) files

-- an input file, as a part of the project
abbrev pub part_of : Source → Part
part_of source.Mat = Mat
part_of source.Sign = Sign
part_of source.Rel = Rel
part_of source.Rhs = Rhs
part_of source.Cap = Cap
part_of source.Lat = Lat
part_of source.Lb = Lb
part_of source.Ub = Ub

-- the answer to a fault of the files
abbrev pub answer_of : InputFault → End
answer_of (input_fault.File at file_fault.Missing) = Missing (part_of at)
answer_of (input_fault.File at (file_fault.TooLong len)) = TooLong (part_of at)
answer_of (input_fault.File at (file_fault.Text fault)) = Text (part_of at) fault
answer_of (input_fault.Refused at) = Refused (part_of at)
answer_of (input_fault.Shape fault) = Shape fault

abbrev pub answered : {A : Type 0} → Result A InputFault → Result A End
answered (Ok x) = Ok x
answered (Err fault) = Err (answer_of fault)

-- the matrix of the tables, without a look at any file; or what the project's files say
abbrev pub input_for : Tool → Option ℕ → List ℕ → Files → Result Input InputFault
input_for tool (Some k) project files =
    unless_fault (shape_fault tool (tables_input k)) (tables_input k)
input_for tool None project files = accepted_in tool project files

-- what the files answer to a job, or its plan
abbrev pub plan_of : Tool → Job → Files → Result Plan End
plan_of tool job files = do
  input ← answered (input_for tool job.tables (project_of job) files)
  Ok (record { job = job; tool = tool; input = input; stored = stored_of (project_of job) files })

abbrev pub plan_for : Tool → Option Job → Files → Result Plan End
plan_for tool None files = Err Usage
plan_for tool (Some job) files = plan_of tool job files

-- the first answer, of the words and then of the files; or the plan of the run
abbrev pub planned : Tool → List (List ℕ) → Files → Result Plan End
planned tool words files = plan_for tool (job_of tool words) files
