-- The lines on standard error.
use Rattle.std.specs.Prelude.{ℕ, List, [], ◌∷◌, ◌++◌, Option, None, Some, codes, decimal}
use Rattle.outside.specs.Pieces.{text_of_parts}
use Rattle.mat_files.specs.declared.faults.TextFault.{TextFault}
use Rattle.mat_files.specs.declared.faults.TextFault.TheVariants.{NotNumber, NotRelation, NotCap, OutOfRange, Early, Extra, TooManyRows, TooManyCols, NoCols}
use Rattle.system_files.specs.declared.faults.FileFault.{FileFault}
use Rattle.system_files.specs.declared.faults.FileFault.TheVariants.{Missing, TooLong, Text}
use Rattle.tool_frame.specs.declared.wordings.Wording.{Wording}
use Rattle.tool_frame.specs.declared.wordings.Limits.{Limits}

-- a number's digits; nothing where there is none
abbrev pub digits_in : Option ℕ → List ℕ
digits_in None = []
digits_in (Some n) = decimal n

-- a text with up to two numbers in it, as its five parts
abbrev pub five_parts : List ℕ → Option ℕ → List ℕ → Option ℕ → List ℕ → List (List ℕ)
five_parts before m between n after = before ∷ digits_in m ∷ between ∷ digits_in n ∷ after ∷ []

abbrev pub words_in : Wording → List (List ℕ)
words_in w = five_parts w.before.now w.first w.between.now w.second w.after.now

abbrev pub plain : List ℕ → List (List ℕ)
plain text = five_parts text None [] None []

abbrev pub with_number : List ℕ → ℕ → List ℕ → List (List ℕ)
with_number before n after = five_parts before (Some n) after None []

abbrev pub with_numbers : List ℕ → ℕ → List ℕ → ℕ → List ℕ → List (List ℕ)
with_numbers before m between n after = five_parts before (Some m) between (Some n) after

-- what is said of the fault of a text
abbrev pub text_fault_text : Limits → TextFault → List (List ℕ)
text_fault_text limits (NotNumber at) = with_number (codes "byte ") at (codes ": not a number")
text_fault_text limits (NotRelation at) = with_number (codes "byte ") at (codes ": not a relation")
text_fault_text limits (NotCap at) = with_number (codes "byte ") at (codes ": not a cap")
text_fault_text limits (OutOfRange at) = with_number (codes "byte ") at (codes ": out of range")
text_fault_text limits (Early at) = with_number (codes "byte ") at (codes ": more expected")
text_fault_text limits (Extra at) = with_number (codes "byte ") at (codes ": nothing more expected")
text_fault_text limits (TooManyRows found) =
    with_numbers [] found (codes " rows, at most ") limits.rows []
text_fault_text limits (TooManyCols found) =
    with_numbers [] found (codes " columns, at most ") limits.cols []
text_fault_text limits NoCols = plain (codes "no columns")

-- and of a file
abbrev pub fault_text : Limits → FileFault → List (List ℕ)
fault_text limits Missing = plain (codes "no such file")
fault_text limits (TooLong len) = with_number (codes "longer than ") limits.bytes (codes " bytes")
fault_text limits (Text fault) = text_fault_text limits fault

abbrev pub shape_text : ℕ → ℕ → List (List ℕ)
shape_text rows cols = with_numbers (codes "wrong shape ") rows (codes " x ") cols []

-- the whole line: the program, and what is said
abbrev pub line_of : List ℕ → List (List ℕ) → List ℕ
line_of program parts = text_of_parts (program ∷ codes ": " ∷ (parts ++ (codes "\n" ∷ [])))

-- of a project's file
abbrev pub file_line : List ℕ → List ℕ → List ℕ → List (List ℕ) → List ℕ
file_line program project ending parts =
    text_of_parts (program ∷ codes ": " ∷ project ∷ ending ∷ codes ": "
    ∷ (parts ++ (codes "\n" ∷ [])))

-- the line of a text, of the project's file where there is one
abbrev pub message_in : List ℕ → List ℕ → Option (List ℕ) → List (List ℕ) → List ℕ
message_in program project None parts = line_of program parts
message_in program project (Some ending) parts = file_line program project ending parts
