-- The theorem of a run from nothing: what the project's output files hold when it ends well.
-- Which list stands in which file: `Outputs.antt`. What the lists are: `system_shape/specs/Problem.antt`.
use Rattle.std.specs.Prelude.{◌≡◌, ℕ, List, false, Option, None, Some, IsOkAnd}
use Rattle.std.specs.Option.{IsSomeAnd}
use Rattle.std.specs.List.{AllByRecursion}
use Rattle.std.specs.FinMap.{get}
use Rattle.outside.specs.Files.{Files}
use Rattle.lift_core.specs.declared.Tool.{Tool}
use Rattle.system_shape.specs.Shape.{user_system}
use Rattle.system_shape.specs.declared.files.Input.{Input}
use Rattle.system_files.specs.Inputs.{accepted_in}
use Rattle.tool_words.specs.declared.jobs.Job.{Job}
use Rattle.tool_top.specs.Names.{file_name}
use Rattle.tool_top.specs.Plan.{project_of}
use Rattle.tool_top.specs.Outputs.{OutputFile, AreOutputsOf}

-- the project's file holds exactly this text
abbrev pub IsHeld : List ℕ → Files → OutputFile → Type 0
IsHeld project files f = get files (file_name project f.part) ≡ Some f.text

-- each output file of the command holds exactly one wanted list of the user's own system, and nothing else
pub record HoldsWantedLists (tool : Tool) (project : List ℕ) (input : Input) (files : Files)
    : Type 0 where
  pub outputs : List OutputFile
  pub wanted : AreOutputsOf tool (user_system tool input) input.mat.cols outputs
  pub held : AllByRecursion (IsHeld project files) outputs

-- the project's files are accepted, and its output files then hold exactly the wanted rows, where
-- the job begins from nothing and its system is that of the project's files
abbrev pub IsSolved : Tool → Option Job → Files → Option Files → Type 0
IsSolved tool None before after = ⊥
IsSolved tool (Some job) before after = job.tables ≡ None → job.resume ≡ false
    → IsOkAnd (accepted_in tool (project_of job) before) (λ input.
    IsSomeAnd after (HoldsWantedLists tool (project_of job) input))
