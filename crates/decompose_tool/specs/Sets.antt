-- What the words and the files say: the system, the set of its solutions, and the point.
use Rattle.std.specs.Prelude.{◌≡◌, ℕ, ◌==◌, ◌&&◌, if◌then◌else◌, List, ◌++◌, Option, None, Some, Result, Ok, Err}
use Rattle.std.specs.FinMap.{get}
use Rattle.outside.specs.Files.{Files}
use Rattle.mat_files.specs.Cells.{Matrix}
use Rattle.lift_core.specs.declared.Tool.{Tool}
use Rattle.lift_core.specs.declared.Tool.TheVariants.{Graver, Hilbert, Zsolve}
use Rattle.system_shape.specs.declared.files.Input.{Input}
use Rattle.mat_files.specs.Tables.{◌>>=◌}
use Rattle.system_files.specs.Files.{grid_in}
use Rattle.system_files.specs.Inputs.{accepted_in}
use Rattle.system_files.specs.declared.faults.FileFault.{FileFault}
use Rattle.system_files.specs.declared.faults.FileEnd.{FileEnd}
use Rattle.system_files.specs.declared.faults.FileEnd.TheVariants as file
use Rattle.system_files.specs.declared.faults.InputFault.{InputFault}
use Rattle.tool_frame.specs.declared.wordings.Limits.{Limits}
use Rattle.decompose_tool.specs.declared.ends.DecFile.{DecFile}
use Rattle.decompose_tool.specs.declared.ends.DecFile.TheVariants.{Gra, Hil, Zinhom, Zhom, Sol}
use Rattle.decompose_tool.specs.declared.ends.Stop.{Stop}
use Rattle.decompose_tool.specs.declared.ends.Stop.TheVariants.{Usage, Input as BadInput, File, Shape, Row, Outside, Memory}
use Rattle.decompose_tool.specs.declared.reading.Sets.{Sets}
use Rattle.decompose_tool.specs.Endings.{ending}
use Rattle.decompose_tool.specs.Requests.{Asked, asked_in}

-- the most bytes, rows and columns of a file
abbrev pub limits_of : DecFile → Limits
limits_of Gra = record { bytes = 268435456; rows = 2097152; cols = 64 }
limits_of Hil = record { bytes = 268435456; rows = 2097152; cols = 64 }
limits_of Zinhom = record { bytes = 268435456; rows = 2097152; cols = 64 }
limits_of Zhom = record { bytes = 268435456; rows = 2097152; cols = 64 }
limits_of Sol = record { bytes = 4194304; rows = 64; cols = 64 }

-- the fault of a file, with the file
abbrev pub at : {C : Type 0} → DecFile → Result C FileFault → Result C Stop
at f (Ok x) = Ok x
at f (Err fault) = Err (File f fault)

abbrev pub placed : {C : Type 0} → DecFile → Result C FileEnd → Result C Stop
placed f (Ok x) = Ok x
placed f (Err (file.Bad fault)) = Err (File f fault)
placed f (Err file.Failed) = Err Outside
placed f (Err file.Memory) = Err Memory

-- the fault of the system's files
abbrev pub of_input : {C : Type 0} → Result C InputFault → Result C Stop
of_input (Ok x) = Ok x
of_input (Err fault) = Err (BadInput fault)

-- the matrix in the project's file
abbrev pub matrix_in : List ℕ → DecFile → Files → Result Matrix Stop
matrix_in project f files =
    at f (grid_in (limits_of f).bytes (limits_of f).rows (limits_of f).cols
    (get files (project ++ ending f)))

-- the file of the solutions that a tool writes; zsolve has a second one, of the homogeneous
-- solutions
abbrev pub first_file : Tool → DecFile
first_file Graver = Gra
first_file Hilbert = Hil
first_file Zsolve = Zinhom

abbrev pub as_some : {C : Type 0} → Result C Stop → Result (Option C) Stop
as_some (Ok x) = Ok (Some x)
as_some (Err stop) = Err stop

abbrev pub second_in : Tool → List ℕ → Files → Result (Option Matrix) Stop
second_in Graver project files = Ok None
second_in Hilbert project files = Ok None
second_in Zsolve project files = as_some (matrix_in project Zhom files)

-- the file has n columns, or this is its shape
abbrev pub fitting : ℕ → DecFile → Matrix → Result (Unit {0}) Stop
fitting n f m = if m.cols == n then Ok tt else Err (Shape f m.rows m.cols)

abbrev pub second_fitting : ℕ → Option Matrix → Result (Unit {0}) Stop
second_fitting n None = Ok tt
second_fitting n (Some m) = fitting n Zhom m

-- the point is one row of n columns
abbrev pub point_fitting : ℕ → Matrix → Result (Unit {0}) Stop
point_fitting n m = if (m.rows == 1) && (m.cols == n) then Ok tt else Err (Shape Sol m.rows m.cols)

-- all of them have the shape that they have to have
abbrev pub all_fitting : Tool → ℕ → Sets → Result Sets Stop
all_fitting tool n sets = do
  first ← fitting n (first_file tool) sets.first
  second ← second_fitting n sets.second
  point ← point_fitting n sets.point
  Ok sets

-- all files are read before their shapes are looked at
abbrev pub found_in : Tool → List ℕ → Files → Result Sets Stop
found_in tool project files = do
  first ← matrix_in project (first_file tool) files
  second ← second_in tool project files
  point ← matrix_in project Sol files
  Ok (record { first = first; second = second; point = point })

abbrev pub sets_in : Tool → ℕ → List ℕ → Files → Result Sets Stop
sets_in tool n project files = found_in tool project files >>= all_fitting tool n

-- the system, with the sets and the point
pub record Plan : Type 0 where
  pub project : List ℕ
  pub tool : Tool
  pub input : Input
  pub sets : Sets

abbrev pub usage : Option Asked → Result Asked Stop
usage None = Err Usage
usage (Some asked) = Ok asked

-- the first answer, or the plan of the run
abbrev pub planned : List (List ℕ) → Files → Result Plan Stop
planned words files = do
  asked ← usage (asked_in words)
  input ← of_input (accepted_in asked.tool asked.project files)
  sets ← sets_in asked.tool input.mat.cols asked.project files
  Ok (record { project = asked.project; tool = asked.tool; input = input; sets = sets })

-- the step's answer is the expected one; a device's fault and running out of memory come by
-- themselves
abbrev pub FailsAs : {A : Type 0} → Stop → Result A Stop → Type 0
FailsAs Usage expected = expected ≡ Err Usage
FailsAs (BadInput fault) expected = expected ≡ Err (BadInput fault)
FailsAs (File f fault) expected = expected ≡ Err (File f fault)
FailsAs (Shape f rows cols) expected = expected ≡ Err (Shape f rows cols)
FailsAs (Row f row fault) expected = ⊥
FailsAs Outside expected = Unit {0}
FailsAs Memory expected = Unit {0}

abbrev pub FindsBy : {X A : Type 0} → (X → A) → Result X Stop → Result A Stop → Type 0
FindsBy view (Ok x) expected = expected ≡ Ok (view x)
FindsBy view (Err stop) expected = FailsAs stop expected

abbrev pub Finds : {A : Type 0} → Result A Stop → Result A Stop → Type 0
Finds result expected = FindsBy (λ x. x) result expected
