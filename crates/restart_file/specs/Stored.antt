-- What the reading of a restart file answers.
use Rattle.std.specs.Prelude.{◌≡◌, ◌≤◌, ℕ, List, Option, Result, Ok, Err, ⊤}
use Rattle.outside.specs.Causes.{Rose}
use Rattle.lift_core.specs.Systems.{ToolSystem}
use Rattle.stage_store.specs.Stage.{StageValue}
use Rattle.restart_file.specs.declared.ends.RestartEnd.{RestartEnd}
use Rattle.restart_file.specs.declared.ends.RestartEnd.TheVariants.{Bad, Failed, Memory}
use Rattle.restart_file.specs.Reading.{IsReading}
use Rattle.restart_file.specs.Texts.{progress_of}

-- the stage of the system that stands in the file, or the file's first fault
abbrev pub Restores : ToolSystem → Option (List ℕ) → Result StageValue RestartEnd → Type 0
Restores S file (Ok s) = (s.system ≡ S) × IsReading S file (Ok (progress_of s))
Restores S file (Err (Bad f)) = IsReading S file (Err f)
Restores S file (Err Failed) = ⊤
Restores S file (Err Memory) = ⊤

-- the count has not fallen, and `Failed` is answered only where it rose
pub record HasRestartCause {T : Type 0} (before now : ℕ) (result : Result T RestartEnd)
    : Type 0 where
  pub later : before ≤ now
  pub failed : result ≡ Err Failed → Rose before now
