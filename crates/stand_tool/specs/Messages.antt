-- The line that the command puts on standard error where it does not end well.
use Rattle.std.specs.Prelude.{◌≡◌, ℕ, Option, List, [], ◌∷◌, ◌++◌, codes, decimal}
use Rattle.outside.specs.Pieces.{text_of_parts, MayPut}
use Rattle.lift_core.specs.declared.Tool.TheVariants.{Graver}
use Rattle.standing_pool.specs.declared.ends.StandEnd.{StandEnd}
use Rattle.standing_pool.specs.declared.ends.StandEnd.TheVariants as run
use Rattle.tool_top.specs.Plan.{answer_of}
use Rattle.tool_top.specs.Messages.{overflow_words}
use Rattle.tool_top.specs.Messages.{line_words as tool_words}
use Rattle.stand_tool.specs.declared.ends.TopEnd.{TopEnd}
use Rattle.stand_tool.specs.declared.ends.TopEnd.TheVariants.{Done, Usage, Input, Run, Outside, Memory}

-- what a line says of the end of a run
abbrev pub run_words : StandEnd → List (List ℕ)
run_words (run.Overflow stage place) = overflow_words stage place
run_words (run.Pairs stage norm needed) =
    codes "pair budget spent at equation " ∷ decimal stage
    ∷ codes ", norm " ∷ decimal norm ∷ codes ": " ∷ decimal needed ∷ codes " pairs needed" ∷ []
run_words (run.Rows stage norm count) =
    codes "row budget spent at equation " ∷ decimal stage
    ∷ codes ", norm " ∷ decimal norm ∷ codes ": " ∷ decimal count ∷ codes " rows needed" ∷ []
run_words run.Memory = codes "out of memory" ∷ []

-- what a line says behind the command's name; of a fault of the files it says the same whatever the tool is
abbrev pub line_words : List ℕ → TopEnd → List (List ℕ)
line_words project (Done solutions pairs) = []
line_words project Usage =
    codes "usage: stand TOOL [-q|--quiet] [--workers=N] [--pairs=N] [--rows=N] PROJECT" ∷ []
line_words project (Input fault) = tool_words Graver project (answer_of fault)
line_words project (Run end) = run_words end
line_words project Outside = codes "device failure" ∷ []
line_words project Memory = codes "out of memory" ∷ []

-- the line: the command's name, what it says, and LF
abbrev pub message_of : List ℕ → TopEnd → List ℕ
message_of project end = text_of_parts (codes "stand: " ∷ line_words project end ++ codes "\n" ∷ [])

-- at Done nothing is put on standard error; at each other end its line, or a prefix of it where that was refused
abbrev pub Speaks : List ℕ → TopEnd → Option (List ℕ) → Option (List ℕ) → Type 0
Speaks project (Done solutions pairs) old new = new ≡ old
Speaks project end old new = MayPut (message_of project end) old new
