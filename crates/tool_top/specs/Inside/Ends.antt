-- The ends of lower layers as ends of a command.
use Rattle.std.specs.Prelude.{◌≡◌, ◌≤◌, ℕ, List, Bool, true, false, Option, None, Some, Result, Ok, Err}
use Rattle.outside.specs.Causes.{Rose}
use Rattle.outside.specs.declared.ends.PutEnd.{PutEnd}
use Rattle.outside.specs.declared.ends.PutEnd.TheVariants.{Failed, Memory as PutMemory}
use Rattle.lift_run.specs.declared.ends.RunEnd.{RunEnd}
use Rattle.lift_core.specs.Systems.{ToolSystem}
use Rattle.lift_core.specs.Ends.{End as LiftEnd}
use Rattle.stage_store.specs.declared.stage.Finish.{Finish}
use Rattle.backups.specs.Starts.{Stored, FindsStart}
use Rattle.backups.specs.Standing.{came_to}
use Rattle.backups.specs.declared.starts.Start.{Start}
use Rattle.backups.specs.declared.starts.Start.TheVariants.{Fresh}
use Rattle.backups.specs.declared.running.Stopped.{Stopped}
use Rattle.backups.specs.declared.starts.Slot.{Slot}
use Rattle.backups.specs.declared.starts.StartEnd.{StartEnd}
use Rattle.backups.specs.declared.starts.StartEnd.TheVariants as start
use Rattle.lift_run.specs.declared.ends.RunEnd.TheVariants.{Overflow as RunOverflow, Pairs as RunPairs, Rows as RunRows, Failed as RunFailed, Memory as RunMemory}
use Rattle.system_files.specs.declared.faults.InputStop.{InputStop}
use Rattle.system_files.specs.declared.faults.InputStop.TheVariants as stop
use Rattle.tool_words.specs.declared.jobs.Job.{Job}
use Rattle.tool_words.specs.declared.jobs.WordEnd.{WordEnd}
use Rattle.tool_words.specs.declared.jobs.WordEnd.TheVariants.{Usage as NoForm, Memory as NoMemory}
use Rattle.tool_top.specs.declared.ends.Part.{Part}
use Rattle.tool_top.specs.declared.ends.Part.TheVariants.{Ckp0, Ckp1}
use Rattle.tool_top.specs.declared.ends.End.{End}
use Rattle.tool_top.specs.declared.ends.End.TheVariants.{Done, Usage, BadRestart, Overflow, Pairs, Rows, Outside, Memory}
use Rattle.tool_top.specs.declared.ends.Totals.{Totals}
use Rattle.tool_top.specs.Names.{file_name}
use Rattle.tool_top.specs.Plan.{Plan, part_of, part_of_slot, answer_of, project_of}
use Rattle.tool_top.specs.Expected.{IsExpectedOr}
use Rattle.tool_top.specs.Left.{Traces, Leaves}

-- a refusal of this file
abbrev pub end_at : Part → PutEnd → End
end_at part Failed = Outside part
end_at part PutMemory = Memory

abbrev pub end_of_stop : InputStop → End
end_of_stop (stop.Bad fault) = answer_of fault
end_of_stop (stop.Failed source) = Outside (part_of source)
end_of_stop stop.Memory = Memory

-- no restart file is taken
abbrev pub end_of_start : StartEnd → End
end_of_start (start.Refused first second) = BadRestart first second
end_of_start (start.Failed slot) = Outside (part_of_slot slot)
end_of_start start.Memory = Memory

-- a run fails where its next backup is refused
abbrev pub end_of_run : Slot → RunEnd → End
end_of_run next (RunOverflow stage place) = Overflow stage place
end_of_run next (RunPairs stage norm needed) = Pairs stage norm needed
end_of_run next (RunRows stage norm count) = Rows stage norm count
end_of_run next RunFailed = Outside (part_of_slot next)
end_of_run next RunMemory = Memory

abbrev pub end_of_stopped : Stopped → End
end_of_stopped s = end_of_run s.next s.end

-- what the run of a job came to, where it broke off with the name of the restart file of its next backup
abbrev pub came_for : Job → Result Finish Stopped → Result LiftEnd (List ℕ)
came_for job result =
    came_to (file_name (project_of job) Ckp0) (file_name (project_of job) Ckp1) result

-- the words are refused
abbrev pub end_of_words : WordEnd → End
end_of_words NoForm = Usage
end_of_words NoMemory = Memory

-- a job was read as the words have it, or they are refused
abbrev pub Asks : Option Job → Result Job WordEnd → Type 0
Asks expected (Ok job) = expected ≡ Some job
Asks expected (Err NoForm) = expected ≡ None
Asks expected (Err NoMemory) = Unit {0}

-- the start of a run that is resumed is found in its restart files, and any other is fresh
abbrev pub FindsStartOf : Bool → ToolSystem → Stored → Result Start StartEnd → Type 0
FindsStartOf true S stored result = FindsStart S stored result
FindsStartOf false S stored result = result ≡ Ok (Fresh S)

-- the end of a run that came to these numbers, or was stopped
abbrev pub end_of : Result Totals End → End
end_of (Ok t) = Done t.solutions t.pairs t.norm_total
end_of (Err end) = end

-- the end is the one that comes, and this is what it leaves
pub record Ends (plan : Result Plan End) (t : Traces) (end : End) : Type 0 where
  pub comes : IsExpectedOr plan end
  pub leaves : Leaves plan t end

-- a fault is answered only where the count rose
pub record HasSinkCause (before now : ℕ) (end : End) : Type 0 where
  pub later : before ≤ now
  pub failed : (part : Part) → end ≡ Outside part → Rose before now
