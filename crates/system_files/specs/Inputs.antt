-- What a project's files say: the first fault, or the user's system and the linear system that stands for it.
use Rattle.std.specs.Prelude.{◌≡◌, ◌≤◌, ℕ, is_some, if◌then◌else◌, List, [], ◌∷◌, length, Option, None, Some, Result, Ok, Err}
use Rattle.std.specs.FinMap.{get}
use Rattle.outside.specs.Files.{Files}
use Rattle.outside.specs.Causes.{Rose}
use Rattle.lift_core.specs.Systems.{ToolSystem}
use Rattle.lift_core.specs.declared.Tool.{Tool}
use Rattle.system_shape.specs.Laws.{IsWellFormed}
use Rattle.system_shape.specs.Shape.{user_system, tool_system, shape_fault}
use Rattle.system_shape.specs.declared.files.Input.{Input}
use Rattle.system_shape.specs.declared.faults.ShapeFault.{ShapeFault}
use Rattle.system_files.specs.Sources.{file_name}
use Rattle.mat_files.specs.Tables.{◌>>=◌}
use Rattle.system_files.specs.Files.{grid_in, optional_grid_in, optional_relations_in, optional_caps_in}
use Rattle.system_files.specs.declared.sources.Source.{Source}
use Rattle.system_files.specs.declared.sources.Source.TheVariants.{Mat, Sign, Rel, Rhs, Cap, Lat, Lb, Ub}
use Rattle.system_files.specs.declared.faults.FileFault.{FileFault}
use Rattle.system_files.specs.declared.faults.FileEnd.{FileEnd}
use Rattle.system_files.specs.declared.faults.FileEnd.TheVariants as file
use Rattle.system_files.specs.declared.faults.InputFault.{InputFault}
use Rattle.system_files.specs.declared.faults.InputFault.TheVariants.{File, Refused, Shape}
use Rattle.system_files.specs.declared.faults.InputStop.{InputStop}
use Rattle.system_files.specs.declared.faults.InputStop.TheVariants as stop
use Rattle.system_files.specs.declared.faults.InputEnd.{InputEnd}
use Rattle.system_files.specs.declared.faults.InputEnd.TheVariants as input

-- the fault of a file, with the file
abbrev pub at : {C : Type 0} → Source → Result C FileFault → Result C InputFault
at source (Ok x) = Ok x
at source (Err fault) = Err (File source fault)

-- none of these files is there
abbrev pub without : List ℕ → List Source → Files → Result (Unit {0}) InputFault
without project [] files = Ok tt
without project (s ∷ sources) files =
    if is_some (get files (file_name project s))
    then Err (Refused s)
    else without project sources files

-- the files that are not supported
abbrev pub unsupported : List Source
unsupported = Lat ∷ Lb ∷ Ub ∷ []

-- the files in their order, each of at most 4,194,304 bytes, 64 rows and 64 columns
abbrev pub input_in : List ℕ → Files → Result Input InputFault
input_in project files = do
  mat ← at Mat (grid_in 4194304 64 64 (get files (file_name project Mat)))
  sign ← at Sign (optional_grid_in 4194304 64 64 (get files (file_name project Sign)))
  rel ← at Rel (optional_relations_in 4194304 64 64 (get files (file_name project Rel)))
  rhs ← at Rhs (optional_grid_in 4194304 64 64 (get files (file_name project Rhs)))
  cap ← at Cap (optional_caps_in 4194304 64 64 (get files (file_name project Cap)))
  absent ← without project unsupported files
  Ok (record { mat = mat; sign = sign; rel = rel; rhs = rhs; cap = cap })

-- the value, or the fault of the matrices' shape
abbrev pub unless_fault : {A : Type 0} → Option ShapeFault → A → Result A InputFault
unless_fault (Some fault) x = Err (Shape fault)
unless_fault None x = Ok x

-- the matrices, which fit each other
abbrev pub accepted_in : Tool → List ℕ → Files → Result Input InputFault
accepted_in tool project files =
    input_in project files >>= (λ input. unless_fault (shape_fault tool input) input)

-- the linear system that stands for them
abbrev pub system_in : Tool → List ℕ → Files → Result ToolSystem InputFault
system_in tool project files =
    accepted_in tool project files >>= (λ input. Ok (tool_system tool input))

-- the linear system of matrices without a fault of shape
pub record IsShaped (tool : Tool) (input : Input) (system : ToolSystem) : Type 0 where
  pub fits : shape_fault tool input ≡ None
  pub is : system ≡ tool_system tool input
  pub formed : IsWellFormed (user_system tool input)
  pub columns : input.mat.cols ≡ length (user_system tool input).signs

-- ---- answers
-- the end of a file, with the file
abbrev pub placed : {C : Type 0} → Source → Result C FileEnd → Result C InputStop
placed source (Ok x) = Ok x
placed source (Err (file.Bad fault)) = Err (stop.Bad (File source fault))
placed source (Err file.Failed) = Err (stop.Failed source)
placed source (Err file.Memory) = Err stop.Memory

-- the answer, seen by view, is what the files say; a failure and running out of memory come by themselves
abbrev pub FindsBy : {X A : Type 0} → (X → A) → Result X InputStop → Result A InputFault → Type 0
FindsBy view (Ok x) expected = expected ≡ Ok (view x)
FindsBy view (Err (stop.Bad fault)) expected = expected ≡ Err fault
FindsBy view (Err (stop.Failed source)) expected = Unit {0}
FindsBy view (Err stop.Memory) expected = Unit {0}

abbrev pub Finds : {A : Type 0} → Result A InputStop → Result A InputFault → Type 0
Finds result expected = FindsBy (λ x. x) result expected

abbrev pub GivesInput : {A : Type 0} → Result A InputEnd → Result A InputFault → Type 0
GivesInput (Ok x) expected = expected ≡ Ok x
GivesInput (Err (input.Bad fault)) expected = expected ≡ Err fault
GivesInput (Err input.Failed) expected = Unit {0}
GivesInput (Err input.Memory) expected = Unit {0}

-- the count has not fallen, and a failure is answered only where it rose
pub record HasStopCause {T : Type 0} (before now : ℕ) (result : Result T InputStop) : Type 0 where
  pub later : before ≤ now
  pub failed : (source : Source) → result ≡ Err (stop.Failed source) → Rose before now

pub record HasInputCause {T : Type 0} (before now : ℕ) (result : Result T InputEnd) : Type 0 where
  pub later : before ≤ now
  pub failed : result ≡ Err input.Failed → Rose before now
