-- What the words and the files say: the project, the matrix and the set.
use Rattle.std.specs.Prelude.{◌≡◌, ℕ, ◌==◌, if◌then◌else◌, List, [], ◌∷◌, ◌++◌, Option, None, Some, Result, Ok, Err}
use Rattle.std.specs.FinMap.{get}
use Rattle.outside.specs.Files.{Files}
use Rattle.outside.specs.Names.{is_name}
use Rattle.mat_files.specs.Cells.{Matrix}
use Rattle.mat_files.specs.Tables.{◌>>=◌}
use Rattle.system_files.specs.Files.{grid_in}
use Rattle.system_files.specs.declared.faults.FileFault.{FileFault}
use Rattle.system_files.specs.declared.faults.FileEnd.{FileEnd}
use Rattle.system_files.specs.declared.faults.FileEnd.TheVariants as file
use Rattle.tool_frame.specs.declared.wordings.Limits.{Limits}
use Rattle.circuit_tool.specs.declared.ends.CirFile.{CirFile}
use Rattle.circuit_tool.specs.declared.ends.CirFile.TheVariants.{Mat, Gra}
use Rattle.circuit_tool.specs.declared.ends.Stop.{Stop}
use Rattle.circuit_tool.specs.declared.ends.Stop.TheVariants.{Usage, File, Shape, NotKernel, Outside, Memory}
use Rattle.circuit_tool.specs.declared.reading.Sets.{Sets}
use Rattle.circuit_tool.specs.Endings.{ending}

-- the project, where the words are its name alone
abbrev pub project_in : List (List ℕ) → Option (List ℕ)
project_in [] = None
project_in (w ∷ []) = if is_name w then Some w else None
project_in (w ∷ v ∷ ws) = None

-- the most bytes, rows and columns of a file
abbrev pub limits_of : CirFile → Limits
limits_of Mat = record { bytes = 4194304; rows = 64; cols = 64 }
limits_of Gra = record { bytes = 268435456; rows = 2097152; cols = 64 }

-- the fault of a file, with the file
abbrev pub at : {C : Type 0} → CirFile → Result C FileFault → Result C Stop
at f (Ok x) = Ok x
at f (Err fault) = Err (File f fault)

abbrev pub placed : {C : Type 0} → CirFile → Result C FileEnd → Result C Stop
placed f (Ok x) = Ok x
placed f (Err (file.Bad fault)) = Err (File f fault)
placed f (Err file.Failed) = Err Outside
placed f (Err file.Memory) = Err Memory

-- the matrix in the project's file
abbrev pub matrix_in : List ℕ → CirFile → Files → Result Matrix Stop
matrix_in project f files =
    at f (grid_in (limits_of f).bytes (limits_of f).rows (limits_of f).cols
    (get files (project ++ ending f)))

-- the matrix and the set have equally many columns
abbrev pub fitting : Matrix → Matrix → Result Sets Stop
fitting mat set =
    if set.cols == mat.cols then Ok (record { mat = mat; set = set })
    else Err (Shape set.rows set.cols)

abbrev pub sets_in : List ℕ → Files → Result Sets Stop
sets_in project files = do
  mat ← matrix_in project Mat files
  set ← matrix_in project Gra files
  fitting mat set

-- the project with the matrix and the set
pub record Plan : Type 0 where
  pub project : List ℕ
  pub sets : Sets

abbrev pub usage : Option (List ℕ) → Result (List ℕ) Stop
usage None = Err Usage
usage (Some project) = Ok project

-- the first answer, or the plan of the run
abbrev pub planned : List (List ℕ) → Files → Result Plan Stop
planned words files = do
  project ← usage (project_in words)
  sets ← sets_in project files
  Ok (record { project = project; sets = sets })

-- the step's answer is the expected one; a device's fault and running out of memory come by
-- themselves
abbrev pub FailsAs : {A : Type 0} → Stop → Result A Stop → Type 0
FailsAs Usage expected = expected ≡ Err Usage
FailsAs (File f fault) expected = expected ≡ Err (File f fault)
FailsAs (Shape rows cols) expected = expected ≡ Err (Shape rows cols)
FailsAs (NotKernel row) expected = ⊥
FailsAs Outside expected = Unit {0}
FailsAs Memory expected = Unit {0}

abbrev pub Finds : {A : Type 0} → Result A Stop → Result A Stop → Type 0
Finds (Ok x) expected = expected ≡ Ok x
Finds (Err stop) expected = FailsAs stop expected
