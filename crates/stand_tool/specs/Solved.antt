-- The theorem: what the project's output files hold where the command ends well.
use Rattle.std.specs.Prelude.{Option, None, Some, IsOkAnd}
use Rattle.std.specs.Option.{IsSomeAnd}
use Rattle.outside.specs.Files.{Files}
use Rattle.system_files.specs.Inputs.{accepted_in}
use Rattle.tool_top.specs.Plan.{project_of}
use Rattle.tool_top.specs.Solved.{HoldsWantedLists}
use Rattle.stand_tool.specs.declared.request.Request.{Request}

-- the project's files are accepted, and its output files then hold exactly the wanted rows
abbrev pub IsSolved : Option Request → Files → Option Files → Type 0
IsSolved None before after = ⊥
IsSolved (Some r) before after = IsOkAnd (accepted_in r.tool (project_of r.job) before)
    (λ input. IsSomeAnd after (HoldsWantedLists r.tool (project_of r.job) input))
