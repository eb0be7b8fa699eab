-- How a run ends, what it leaves, and what it says.
use Rattle.std.specs.Prelude.{◌≡◌, ◌⊎◌, ◌≤◌, ℕ, ℤ, List, [], ◌∷◌, ◌++◌, length, Option, None, Some, Result, Ok, Err, codes, decimal}
use Rattle.outside.specs.Causes.{Rose}
use Rattle.outside.specs.Pieces.{text_of_parts, MayPut}
use Rattle.outside.specs.declared.ends.PutEnd.{PutEnd}
use Rattle.outside.specs.declared.ends.PutEnd.TheVariants as put
use Rattle.std.specs.Option.{option_map}
use Rattle.std.specs.Io.KnownBytes.{append_known}
use Rattle.outside.specs.Files.{Files}
use Rattle.mat_files.specs.Cells.{Matrix}
use Rattle.mat_files.specs.Printed.{text_of}
use Rattle.solution_files.specs.Outputs.{written, MayWrite, text_of_rows}
use Rattle.system_files.specs.Kernel.{rows_in, FirstOutside}
use Rattle.tool_frame.specs.Wordings.{plain, with_number, fault_text, shape_text, message_in}
use Rattle.tool_frame.specs.Outputs.{OutputFile, Traces, IsUntouched, IsWhole, IsPartly}
use Rattle.circuit_tool.specs.declared.ends.CirEnd.{CirEnd}
use Rattle.circuit_tool.specs.declared.ends.CirEnd.TheVariants as end
use Rattle.circuit_tool.specs.declared.ends.CirFile.TheVariants.{Gra}
use Rattle.circuit_tool.specs.declared.ends.Stop.{Stop}
use Rattle.circuit_tool.specs.declared.ends.Stop.TheVariants.{Usage, File, Shape, NotKernel, Outside, Memory}
use Rattle.circuit_tool.specs.declared.reading.Sets.{Sets}
use Rattle.circuit_tool.specs.Circuits.{AreLeastRows}
use Rattle.circuit_tool.specs.Endings.{ending}
use Rattle.circuit_tool.specs.Sets.{Plan, limits_of}

-- the exit status
abbrev pub code_of : CirEnd → ℕ
code_of (end.Done circuits) = 0
code_of end.Usage = 1
code_of (end.File f fault) = 2
code_of end.Shape = 2
code_of (end.NotKernel row) = 2
code_of end.Outside = 5
code_of end.Memory = 6

-- the end of a run
abbrev pub end_of : Result ℕ Stop → CirEnd
end_of (Ok circuits) = end.Done circuits
end_of (Err Usage) = end.Usage
end_of (Err (File f fault)) = end.File f fault
end_of (Err (Shape rows cols)) = end.Shape
end_of (Err (NotKernel row)) = end.NotKernel row
end_of (Err Outside) = end.Outside
end_of (Err Memory) = end.Memory

abbrev pub stop_of : PutEnd → Stop
stop_of put.Failed = Outside
stop_of put.Memory = Memory

-- the line on standard error: the file that it speaks of, by its ending, and what is said
abbrev pub place_of : Stop → Option (List ℕ)
place_of Usage = None
place_of (File f fault) = Some (ending f)
place_of (Shape rows cols) = Some (ending Gra)
place_of (NotKernel row) = Some (ending Gra)
place_of Outside = None
place_of Memory = None

abbrev pub said_of : Stop → List (List ℕ)
said_of Usage = plain (codes "usage: circuits PROJECT")
said_of (File f fault) = fault_text (limits_of f) fault
said_of (Shape rows cols) = shape_text rows cols
said_of (NotKernel row) = with_number (codes "row ") row (codes ": not in the kernel")
said_of Outside = plain (codes "device failure")
said_of Memory = plain (codes "out of memory")

abbrev pub message_of : List ℕ → Stop → List ℕ
message_of project stop = message_in (codes "circuits") project (place_of stop) (said_of stop)

-- nothing is said where all is done, and else the line or a prefix of it
abbrev pub Says : List ℕ → Result ℕ Stop → Option (List ℕ) → Option (List ℕ) → Type 0
Says project (Ok circuits) old new = new ≡ old
Says project (Err stop) old new = MayPut (message_of project stop) old new

-- the summary on standard output
abbrev pub summary_of : ℕ → List ℕ
summary_of circuits = text_of_parts (decimal circuits ∷ codes " circuits\n" ∷ [])

-- the file of these rows
abbrev pub output_of : ℕ → List (List ℤ) → OutputFile
output_of n rows = record { ending = codes ".cir"; text = text_of_rows n rows }

-- each row of the set is in the kernel of the matrix
abbrev pub AreInKernel : Sets → Type 0
AreInKernel sets = FirstOutside (rows_in sets.mat) (rows_in sets.set) None

-- the rows of least support are written, and how many they are is told
pub record IsDone (project : List ℕ) (sets : Sets) (t : Traces) (circuits : ℕ) : Type 0 where
  pub kernel : AreInKernel sets
  pub rows : List (List ℤ)
  pub least : AreLeastRows (rows_in sets.set) rows
  pub count : circuits ≡ length rows
  pub whole : IsWhole project (output_of sets.mat.cols rows ∷ []) (summary_of circuits) t

-- the writing of these rows, or the telling, was cut
pub record IsCutShort (project : List ℕ) (sets : Sets) (t : Traces) : Type 0 where
  pub kernel : AreInKernel sets
  pub rows : List (List ℤ)
  pub least : AreLeastRows (rows_in sets.set) rows
  pub part : IsPartly project (output_of sets.mat.cols rows ∷ []) (summary_of (length rows)) t

abbrev pub MayLeave : List ℕ → Sets → Traces → Type 0
MayLeave project sets t = IsUntouched t ⊎ IsCutShort project sets t

-- the summary was put, or a prefix of it
abbrev pub Told : ℕ → Option (List ℕ) → Option (List ℕ) → Result ℕ Stop → Type 0
Told circuits old new (Ok n) = (n ≡ circuits) × (new ≡ append_known old (summary_of circuits))
Told circuits old new (Err Outside) = MayPut (summary_of circuits) old new
Told circuits old new (Err Memory) = MayPut (summary_of circuits) old new
Told circuits old new (Err Usage) = ⊥
Told circuits old new (Err (File f fault)) = ⊥
Told circuits old new (Err (Shape rows cols)) = ⊥
Told circuits old new (Err (NotKernel row)) = ⊥

-- the matrix is written and told, or both were cut
abbrev pub Cut : List ℕ → Matrix → Option Files → Option Files → Option (List ℕ) → Option (List ℕ)
    → Type 0
Cut project grid old new out out' =
    (MayWrite (project ++ codes ".cir") (text_of grid) old new × (out' ≡ out))
    ⊎ ((new ≡ option_map (written (project ++ codes ".cir") (text_of grid)) old)
    × MayPut (summary_of grid.rows) out out')

abbrev pub Published : List ℕ → Matrix → Option Files → Option Files → Option (List ℕ)
    → Option (List ℕ) → Result ℕ Stop → Type 0
Published project grid old new out out' (Ok n) =
    (n ≡ grid.rows)
    × (new ≡ option_map (written (project ++ codes ".cir") (text_of grid)) old)
    × (out' ≡ append_known out (summary_of n))
Published project grid old new out out' (Err Outside) = Cut project grid old new out out'
Published project grid old new out out' (Err Memory) = Cut project grid old new out out'
Published project grid old new out out' (Err Usage) = ⊥
Published project grid old new out out' (Err (File f fault)) = ⊥
Published project grid old new out out' (Err (Shape rows cols)) = ⊥
Published project grid old new out out' (Err (NotKernel row)) = ⊥

-- what the run of a matrix and a set comes to
abbrev pub EndsWith : List ℕ → Sets → Traces → Result ℕ Stop → Type 0
EndsWith project sets t (Ok circuits) = IsDone project sets t circuits
EndsWith project sets t (Err (NotKernel row)) =
    FirstOutside (rows_in sets.mat) (rows_in sets.set) (Some row) × IsUntouched t
EndsWith project sets t (Err Outside) = MayLeave project sets t
EndsWith project sets t (Err Memory) = MayLeave project sets t
EndsWith project sets t (Err Usage) = ⊥
EndsWith project sets t (Err (File f fault)) = ⊥
EndsWith project sets t (Err (Shape rows cols)) = ⊥

-- the end is the one that the words and the files decide, and this is what stands then; a device's
-- fault and running out of memory come by themselves
abbrev pub Ends : Result Plan Stop → Traces → Result ℕ Stop → Type 0
Ends plan t (Ok circuits) = (p : Plan) × (plan ≡ Ok p) × IsDone p.project p.sets t circuits
Ends plan t (Err (NotKernel row)) =
    (p : Plan)
    × (plan ≡ Ok p)
    × FirstOutside (rows_in p.sets.mat) (rows_in p.sets.set) (Some row)
    × IsUntouched t
Ends plan t (Err Usage) = (plan ≡ Err Usage) × IsUntouched t
Ends plan t (Err (File f fault)) = (plan ≡ Err (File f fault)) × IsUntouched t
Ends plan t (Err (Shape rows cols)) = (plan ≡ Err (Shape rows cols)) × IsUntouched t
Ends plan t (Err Outside) =
    IsUntouched t ⊎ ((p : Plan) × (plan ≡ Ok p) × IsCutShort p.project p.sets t)
Ends plan t (Err Memory) =
    IsUntouched t ⊎ ((p : Plan) × (plan ≡ Ok p) × IsCutShort p.project p.sets t)

-- the counts have not fallen, and a device's fault is answered only where one of them rose
pub record HasCause {T : Type 0} (before now : ℕ) (result : Result T Stop) : Type 0 where
  pub later : before ≤ now
  pub failed : result ≡ Err Outside → Rose before now

pub record HasCauses (files_before files_now out_before out_now : ℕ) (result : Result ℕ Stop)
    : Type 0 where
  pub files_later : files_before ≤ files_now
  pub out_later : out_before ≤ out_now
  pub failed : result ≡ Err Outside → Rose files_before files_now ⊎ Rose out_before out_now
