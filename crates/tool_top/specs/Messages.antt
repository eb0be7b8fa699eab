-- The line that a command puts on standard error where it does not end well.
use Rattle.std.specs.Prelude.{◌≡◌, ℕ, ℤ, Option, List, [], ◌∷◌, ◌++◌, map, codes, decimal}
use Rattle.std.specs.Fmt.{signed_decimal}
use Rattle.outside.specs.Pieces.{text_of_parts, MayPut}
use Rattle.mat_files.specs.declared.faults.TextFault.{TextFault}
use Rattle.mat_files.specs.declared.faults.TextFault.TheVariants.{NotNumber, NotRelation, NotCap, OutOfRange, Early, Extra, TooManyRows, TooManyCols, NoCols}
use Rattle.system_shape.specs.declared.faults.ShapeFault.{ShapeFault}
use Rattle.system_shape.specs.declared.faults.ShapeFault.TheVariants.{SignNeeded, SignShape, BadSign, Free, RelShape, RhsNotHere, RhsShape, CapShape}
use Rattle.restart_file.specs.declared.ends.RestartFault.{RestartFault}
use Rattle.restart_file.specs.declared.ends.RestartFault.TheVariants as fault
use Rattle.lift_core.specs.declared.Tool.{Tool}
use Rattle.lift_core.specs.declared.Tool.TheVariants.{Graver, Hilbert, Zsolve}
use Rattle.lift_run.specs.declared.ends.Place.{Place}
use Rattle.lift_run.specs.declared.ends.Place.TheVariants.{Row, Norm}
use Rattle.tool_top.specs.declared.ends.Part.{Part}
use Rattle.tool_top.specs.declared.ends.Part.TheVariants.{Sign, Rel, Rhs, Cap, Ckp0, Ckp1, Out}
use Rattle.tool_top.specs.declared.ends.End.{End}
use Rattle.tool_top.specs.declared.ends.End.TheVariants.{Done, Usage, Missing, TooLong, Text, Refused, Shape, BadRestart, Overflow, Pairs, Rows, Outside, Memory}
use Rattle.tool_top.specs.Names.{file_name}

abbrev pub tool_name : Tool → List ℕ
tool_name Graver = codes "graver"
tool_name Hilbert = codes "hilbert"
tool_name Zsolve = codes "zsolve"

-- the file of a part
abbrev pub part_name : List ℕ → Part → List ℕ
part_name project Out = codes "standard output"
part_name project part = file_name project part

-- the words that the command takes
abbrev pub usage_of : Tool → List (List ℕ)
usage_of Graver =
    codes "usage: graver [-q|--quiet] [--workers=N] [--pairs=N] [--rows=N] [--backup=N] [-r|--resume] PROJECT"
    ∷ codes " or graver [-q|--quiet] [--workers=N] [--pairs=N] [--rows=N] --tables=K" ∷ []
usage_of Hilbert =
    codes "usage: hilbert [-q|--quiet] [--workers=N] [--pairs=N] [--rows=N] [--backup=N] [-r|--resume] PROJECT" ∷ []
usage_of Zsolve =
    codes "usage: zsolve [-q|--quiet] [--workers=N] [--pairs=N] [--rows=N] [--backup=N] [-r|--resume] PROJECT" ∷ []

-- what is wrong at a byte of a text
abbrev pub at_byte : ℕ → List ℕ → List (List ℕ)
at_byte at fault = codes "byte " ∷ decimal at ∷ fault ∷ []

abbrev pub text_fault : TextFault → List (List ℕ)
text_fault (NotNumber at) = at_byte at (codes ": not a number")
text_fault (NotRelation at) = at_byte at (codes ": not a relation")
text_fault (NotCap at) = at_byte at (codes ": not a cap")
text_fault (OutOfRange at) = at_byte at (codes ": out of range")
text_fault (Early at) = at_byte at (codes ": more expected")
text_fault (Extra at) = at_byte at (codes ": nothing more expected")
text_fault (TooManyRows rows) = decimal rows ∷ codes " rows, at most 64" ∷ []
text_fault (TooManyCols cols) = decimal cols ∷ codes " columns, at most 64" ∷ []
text_fault NoCols = codes "no columns" ∷ []

-- the file in which a fault of the shape is seen
abbrev pub shape_part : ShapeFault → Part
shape_part (RelShape rows cols) = Rel
shape_part RhsNotHere = Rhs
shape_part (RhsShape rows cols) = Rhs
shape_part (CapShape rows cols) = Cap
shape_part fault = Sign

abbrev pub wrong_shape : ℕ → ℕ → List (List ℕ)
wrong_shape rows cols = codes "wrong shape " ∷ decimal rows ∷ codes " x " ∷ decimal cols ∷ []

abbrev pub bad_sign : ℕ → ℤ → List (List ℕ)
bad_sign at value = codes "column " ∷ decimal at ∷ codes ": bad sign " ∷ signed_decimal value ∷ []

abbrev pub shape_fault_words : ShapeFault → List (List ℕ)
shape_fault_words SignNeeded = codes "needed" ∷ []
shape_fault_words (SignShape rows cols) = wrong_shape rows cols
shape_fault_words (BadSign at value) = bad_sign at value
shape_fault_words (Free at) =
    codes "column " ∷ decimal at ∷ codes ": free variables are not supported" ∷ []
shape_fault_words (RelShape rows cols) = wrong_shape rows cols
shape_fault_words RhsNotHere = codes "only for zsolve" ∷ []
shape_fault_words (RhsShape rows cols) = wrong_shape rows cols
shape_fault_words (CapShape rows cols) = wrong_shape rows cols

-- the entries of a solution, each behind a space (32)
abbrev pub entries : List ℤ → List (List ℕ)
entries cells = map (λ z. 32 ∷ signed_decimal z) cells

-- a file, and what is said of it
abbrev pub about : List ℕ → Part → List (List ℕ) → List (List ℕ)
about project part words = part_name project part ∷ codes ": " ∷ words

-- what is wrong in a line of a restart file
abbrev pub at_line : ℕ → List ℕ → List (List ℕ)
at_line line cause = codes "line " ∷ decimal line ∷ cause ∷ []

-- why a restart file is not accepted
abbrev pub cause_of : RestartFault → List (List ℕ)
cause_of fault.Missing = codes "no such file" ∷ []
cause_of fault.Digest = codes "digest differs" ∷ []
cause_of (fault.Text line) = at_line line (codes ": bad text")
cause_of (fault.OtherSystem line) = at_line line (codes ": other system")
cause_of (fault.NotSolution line) = at_line line (codes ": not a solution")
cause_of (fault.Order line) = at_line line (codes ": out of order")
cause_of (fault.Classes line) = at_line line (codes ": wrong classes")
cause_of fault.Used = codes "used pairs too few" ∷ []

-- both restart files, each with its cause
abbrev pub both_causes : List ℕ → RestartFault → RestartFault → List (List ℕ)
both_causes project first second =
    about project Ckp0 (cause_of first) ++ codes "; " ∷ about project Ckp1 (cause_of second)

-- the solution with which a product leaves the range, or the norm that does
abbrev pub overflow_words : ℕ → Place → List (List ℕ)
overflow_words stage (Row v) =
    codes "overflow at equation " ∷ decimal stage ∷ codes ": solution" ∷ entries v
overflow_words stage (Norm d) =
    codes "overflow at equation " ∷ decimal stage ∷ codes ": norm " ∷ decimal d ∷ []

-- what a line says behind the tool's name
abbrev pub line_words : Tool → List ℕ → End → List (List ℕ)
line_words tool project (Done solutions pairs norms) = []
line_words tool project Usage = usage_of tool
line_words tool project (Missing part) = about project part (codes "no such file" ∷ [])
line_words tool project (TooLong part) = about project part (codes "longer than 4194304 bytes" ∷ [])
line_words tool project (Text part fault) = about project part (text_fault fault)
line_words tool project (Refused part) = about project part (codes "not supported" ∷ [])
line_words tool project (Shape fault) = about project (shape_part fault) (shape_fault_words fault)
line_words tool project (BadRestart first second) = both_causes project first second
line_words tool project (Overflow stage place) = overflow_words stage place
line_words tool project (Pairs stage norm needed) =
    codes "pair budget spent at equation " ∷ decimal stage
    ∷ codes ", norm " ∷ decimal norm ∷ codes ": " ∷ decimal needed ∷ codes " pairs needed" ∷ []
line_words tool project (Rows stage norm count) =
    codes "row budget spent at equation " ∷ decimal stage
    ∷ codes ", norm " ∷ decimal norm ∷ codes ": " ∷ decimal count ∷ codes " rows needed" ∷ []
line_words tool project (Outside part) = about project part (codes "device failure" ∷ [])
line_words tool project Memory = codes "out of memory" ∷ []

-- the line: the tool's name, what it says, and LF
abbrev pub message_of : Tool → List ℕ → End → List ℕ
message_of tool project end =
    text_of_parts (tool_name tool ∷ codes ": " ∷ line_words tool project end ++ codes "\n" ∷ [])

-- at Done nothing is put on standard error; at each other end its line, or a prefix of it where that was refused
abbrev pub Speaks : Tool → List ℕ → End → Option (List ℕ) → Option (List ℕ) → Type 0
Speaks tool project (Done solutions pairs norms) old new = new ≡ old
Speaks tool project end old new = MayPut (message_of tool project end) old new

-- all is done, and there is nothing to say
abbrev pub IsDoneEnd : End → Type 0
IsDoneEnd (Done solutions pairs norms) = Unit {0}
IsDoneEnd end = ⊥
