-- What the command is to do: the first answer that fits, or the plan of the run.
use Rattle.std.specs.Prelude.{ℕ, List, Option, None, Some, Result, Err}
use Rattle.std.specs.Option.{option_map}
use Rattle.outside.specs.Files.{Files}
use Rattle.tool_words.specs.declared.jobs.Job.{Job}
use Rattle.tool_top.specs.declared.ends.End.{End}
use Rattle.tool_top.specs.declared.ends.End.TheVariants.{Usage}
use Rattle.tool_top.specs.Plan.{Plan, plan_of, named_project}
use Rattle.stand_tool.specs.declared.request.Request.{Request}
use Rattle.stand_tool.specs.Requests.{request_of}

-- what the files answer to a request, or the plan of its run; usage where nothing is asked for
abbrev pub plan_for : Option Request → Files → Result Plan End
plan_for None files = Err Usage
plan_for (Some request) files = plan_of request.tool request.job files

-- the first answer, of the words and then of the files; or the plan of the run
abbrev pub planned : List (List ℕ) → Files → Result Plan End
planned words files = plan_for (request_of words) files

-- the job that is asked for
abbrev pub job_in : Option Request → Option Job
job_in asked = option_map (λ (request : Request). request.job) asked

-- its project, empty where nothing is asked for
abbrev pub project_in : Option Request → List ℕ
project_in asked = named_project (job_in asked)
