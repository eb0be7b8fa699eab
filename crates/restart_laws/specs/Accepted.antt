-- Which files are accepted.
use Rattle.std.specs.Prelude.{◌≡◌, ℕ, List, Some, Ok}
use Rattle.lift_core.specs.Systems.{ToolSystem}
use Rattle.restart_file.specs.declared.lines.Version.{Version}
use Rattle.restart_file.specs.Texts.{Progress, restart_text}
use Rattle.restart_file.specs.Reading.{IsFor, IsReading}

-- a file that is accepted is, byte for byte, the text of what it says, of a version that stands for the system
abbrev pub IsTextOfWhatItSays : Type 0
IsTextOfWhatItSays =
    (S : ToolSystem) (bytes : List ℕ) (p : Progress)
    → IsReading S (Some bytes) (Ok p)
    → (v : Version) × (bytes ≡ restart_text v S p) × IsFor S v
