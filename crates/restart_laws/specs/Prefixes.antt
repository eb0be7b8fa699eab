-- What is true of the beginning of a restart file.
use Rattle.std.specs.Prelude.{◌≡◌, ◌≢◌, ℕ, List, [], ◌++◌, Some, Ok}
use Rattle.lift_core.specs.Systems.{ToolSystem}
use Rattle.lift_core.specs.ToolSystems.{IsToolSystem}
use Rattle.restart_file.specs.Texts.{Progress}
use Rattle.restart_file.specs.Reading.{IsReading}

-- where a file is accepted, no file that is cut short of it is
abbrev pub NoProperPrefix : Type 0
NoProperPrefix =
    (S : ToolSystem) (bytes front rest : List ℕ) (p q : Progress)
    → IsToolSystem S
    → IsReading S (Some bytes) (Ok p)
    → bytes ≡ front ++ rest
    → rest ≢ []
    → IsReading S (Some front) (Ok q)
    → ⊥
