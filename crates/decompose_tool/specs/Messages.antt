-- The line on standard error.
use Rattle.std.specs.Prelude.{◌≡◌, ℕ, ℤ, pos, negsuc, nat_abs, List, [], ◌∷◌, map, Option, None, Some, Result, Ok, Err, codes}
use Rattle.std.specs.Fmt.{signed_decimal}
use Rattle.outside.specs.Pieces.{MayPut}
use Rattle.system_shape.specs.declared.faults.ShapeFault.{ShapeFault}
use Rattle.system_shape.specs.declared.faults.ShapeFault.TheVariants as shape
use Rattle.system_files.specs.Sources as sources
use Rattle.system_files.specs.declared.sources.Source.{Source}
use Rattle.system_files.specs.declared.sources.Source.TheVariants as source
use Rattle.system_files.specs.declared.faults.InputFault.{InputFault}
use Rattle.system_files.specs.declared.faults.InputFault.TheVariants as input
use Rattle.tool_frame.specs.Wordings.{plain, with_number, with_numbers, fault_text, shape_text, line_of, message_in}
use Rattle.tool_frame.specs.declared.wordings.Limits.{Limits}
use Rattle.decompose_tool.specs.declared.ends.Ending.{Ending}
use Rattle.decompose_tool.specs.declared.ends.Ending.TheVariants.{Done, Left}
use Rattle.decompose_tool.specs.declared.ends.RowFault.{RowFault}
use Rattle.decompose_tool.specs.declared.ends.RowFault.TheVariants.{Range, NotSolution}
use Rattle.decompose_tool.specs.declared.ends.Stop.{Stop}
use Rattle.decompose_tool.specs.declared.ends.Stop.TheVariants.{Usage, Input as BadInput, File, Shape, Row, Outside, Memory}
use Rattle.decompose_tool.specs.Endings.{ending}
use Rattle.decompose_tool.specs.Sets.{limits_of}

-- ---- the system's files
-- the most bytes, rows and columns of each
abbrev pub input_limits : Limits
input_limits = record { bytes = 4194304; rows = 64; cols = 64 }

-- the file in which a fault of the shape is seen
abbrev pub shape_source : ShapeFault → Source
shape_source shape.SignNeeded = source.Sign
shape_source (shape.SignShape rows cols) = source.Sign
shape_source (shape.BadSign at value) = source.Sign
shape_source (shape.Free at) = source.Sign
shape_source (shape.RelShape rows cols) = source.Rel
shape_source shape.RhsNotHere = source.Rhs
shape_source (shape.RhsShape rows cols) = source.Rhs
shape_source (shape.CapShape rows cols) = source.Cap

abbrev pub input_source : InputFault → Source
input_source (input.File s fault) = s
input_source (input.Refused s) = s
input_source (input.Shape fault) = shape_source fault

-- a sign that is none, with a dash where it is negative
abbrev pub bad_sign_text : ℕ → ℤ → List (List ℕ)
bad_sign_text at (pos value) = with_numbers (codes "column ") at (codes ": bad sign ") value []
bad_sign_text at (negsuc value) =
    with_numbers (codes "column ") at (codes ": bad sign -") (nat_abs (negsuc value)) []

abbrev pub shape_fault_text : ShapeFault → List (List ℕ)
shape_fault_text shape.SignNeeded = plain (codes "needed")
shape_fault_text (shape.SignShape rows cols) = shape_text rows cols
shape_fault_text (shape.BadSign at value) = bad_sign_text at value
shape_fault_text (shape.Free at) =
    with_number (codes "column ") at (codes ": free variables are not supported")
shape_fault_text (shape.RelShape rows cols) = shape_text rows cols
shape_fault_text shape.RhsNotHere = plain (codes "only for zsolve")
shape_fault_text (shape.RhsShape rows cols) = shape_text rows cols
shape_fault_text (shape.CapShape rows cols) = shape_text rows cols

abbrev pub input_text : InputFault → List (List ℕ)
input_text (input.File s fault) = fault_text input_limits fault
input_text (input.Refused s) = plain (codes "not supported")
input_text (input.Shape fault) = shape_fault_text fault

-- ---- the line
-- the file that it speaks of, by its ending
abbrev pub place_of : Stop → Option (List ℕ)
place_of Usage = None
place_of (BadInput fault) = Some (sources.ending (input_source fault))
place_of (File f fault) = Some (ending f)
place_of (Shape f rows cols) = Some (ending f)
place_of (Row f row fault) = Some (ending f)
place_of Outside = None
place_of Memory = None

abbrev pub row_fault_text : RowFault → List ℕ
row_fault_text Range = codes ": out of range"
row_fault_text NotSolution = codes ": not a solution"

-- and what it says
abbrev pub said_of : Stop → List (List ℕ)
said_of Usage = plain (codes "usage: decompose TOOL PROJECT")
said_of (BadInput fault) = input_text fault
said_of (File f fault) = fault_text (limits_of f) fault
said_of (Shape f rows cols) = shape_text rows cols
said_of (Row f row fault) = with_number (codes "row ") row (row_fault_text fault)
said_of Outside = plain (codes "device failure")
said_of Memory = plain (codes "out of memory")

abbrev pub message_of : List ℕ → Stop → List ℕ
message_of project stop = message_in (codes "decompose") project (place_of stop) (said_of stop)

-- each entry behind a space (32)
abbrev pub entries : List ℤ → List (List ℕ)
entries v = map (λ z. 32 ∷ signed_decimal z) v

-- what is left
abbrev pub left_message : List ℤ → List ℕ
left_message rest = line_of (codes "decompose") (codes "nothing fits" ∷ entries rest)

-- nothing is said where all is done, and else the line or a prefix of it
abbrev pub SaysEnding : Ending → Option (List ℕ) → Option (List ℕ) → Type 0
SaysEnding (Done terms) old new = new ≡ old
SaysEnding (Left rest) old new = MayPut (left_message rest) old new

abbrev pub Says : List ℕ → Result Ending Stop → Option (List ℕ) → Option (List ℕ) → Type 0
Says project (Ok ending) old new = SaysEnding ending old new
Says project (Err stop) old new = MayPut (message_of project stop) old new
