-- What was found in a restart file.
use Rattle.std.specs.Prelude.{ℕ, List, Option}
use Rattle.lift_core.specs.Systems.{ToolSystem}
use Rattle.backups.specs.declared.starts.Content.{Content}
use Rattle.backups.specs.declared.starts.Content.TheVariants.{Accepted, Faulty}
use Rattle.backups.specs.Starts.{StandsIn, HasFirstFault}

-- the stage that stands in the file, or the file's first fault
abbrev pub IsContent : ToolSystem → Option (List ℕ) → Content → Type 0
IsContent S file (Accepted s) = StandsIn S file s
IsContent S file (Faulty fault) = HasFirstFault S file fault
