-- The ends of lower layers as ends of the command.
use Rattle.std.specs.Prelude.{◌≡◌, Option, None, Some, Result, Ok, Err}
use Rattle.system_files.specs.declared.faults.InputStop.{InputStop}
use Rattle.system_files.specs.declared.faults.InputStop.TheVariants as stop
use Rattle.tool_words.specs.declared.jobs.WordEnd.{WordEnd}
use Rattle.tool_words.specs.declared.jobs.WordEnd.TheVariants as words
use Rattle.tool_top.specs.declared.ends.End.{End}
use Rattle.tool_top.specs.declared.ends.End.TheVariants as top
use Rattle.stand_tool.specs.declared.request.Request.{Request}
use Rattle.stand_tool.specs.declared.ends.TopEnd.{TopEnd}
use Rattle.stand_tool.specs.declared.ends.TopEnd.TheVariants.{Usage, Input, Outside, Memory}

-- the words are refused
abbrev pub end_of_words : WordEnd → TopEnd
end_of_words words.Usage = Usage
end_of_words words.Memory = Memory

-- the files are refused
abbrev pub end_of_stop : InputStop → TopEnd
end_of_stop (stop.Bad fault) = Input fault
end_of_stop (stop.Failed source) = Outside
end_of_stop stop.Memory = Memory

-- an end that comes once the system is read, of a run without backups
abbrev pub IsOfRun : End → Type 0
IsOfRun (top.Done solutions pairs norms) = Unit {0}
IsOfRun (top.Overflow stage place) = Unit {0}
IsOfRun (top.Pairs stage norm needed) = Unit {0}
IsOfRun (top.Rows stage norm count) = Unit {0}
IsOfRun (top.Outside part) = Unit {0}
IsOfRun top.Memory = Unit {0}
IsOfRun end = ⊥

-- the request is as the words have it, or they are refused
abbrev pub Asks : Option Request → Result Request WordEnd → Type 0
Asks asked (Ok request) = asked ≡ Some request
Asks asked (Err words.Usage) = asked ≡ None
Asks asked (Err words.Memory) = Unit {0}
