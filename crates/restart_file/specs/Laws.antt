-- What is true of the readings of restart files.
use Rattle.std.specs.Prelude.{◌≡◌, ℕ, List, Option, Result}
use Rattle.lift_core.specs.Systems.{ToolSystem}
use Rattle.lift_core.specs.ToolSystems.{IsToolSystem}
use Rattle.restart_file.specs.declared.ends.RestartFault.{RestartFault}
use Rattle.restart_file.specs.Texts.{Progress}
use Rattle.restart_file.specs.Reading.{IsReading}

-- a file says one thing of a system, or has one first fault
abbrev pub OneReading : Type 0
OneReading =
    (S : ToolSystem) (file : Option (List ℕ)) (a b : Result Progress RestartFault)
    → IsToolSystem S
    → IsReading S file a
    → IsReading S file b
    → a ≡ b
