-- The files that a command writes.
use Rattle.std.specs.Prelude.{◌≡◌, ℕ, ℤ, List, ◌∷◌, [], length, take, Option, None, Some}
use Rattle.std.specs.List.{sum_by, AllByRecursion}
use Rattle.outside.specs.Files.{Files}
use Rattle.int_vector.specs.Vectors.{norm}
use Rattle.lift_core.specs.Columns.{SolutionKind, Every, Homogeneous, Inhomogeneous}
use Rattle.lift_core.specs.Systems.{LinearSystem, ToolSystem}
use Rattle.lift_core.specs.Kinds.{HasX0}
use Rattle.lift_core.specs.declared.Tool.{Tool}
use Rattle.lift_core.specs.declared.Tool.TheVariants.{Graver, Hilbert, Zsolve}
use Rattle.stage_store.specs.Stage.{IsDefined}
use Rattle.system_shape.specs.Problem.{UserSystem, IsWantedForUser, IsWantedGraverForUser}
use Rattle.solution_files.specs.Outputs.{written, text_of_rows}
use Rattle.backups.specs.declared.starts.Start.{Start}
use Rattle.backups.specs.declared.starts.Start.TheVariants.{Fresh, Resumed}
use Rattle.backups.specs.Standing.{IsSolution}
use Rattle.tool_top.specs.declared.ends.Part.{Part}
use Rattle.tool_top.specs.declared.ends.Part.TheVariants.{Gra, Hil, Zhom, Zinhom}
use Rattle.tool_top.specs.Names.{file_name}
use Rattle.tool_top.specs.Plan.{Plan, user_of, system_of_plan}

-- an output file: which, its text, how many rows it has, and the sum of their norms
pub record OutputFile : Type 0 where
  pub part : Part
  pub text : List ℕ
  pub rows : ℕ
  pub norms : ℕ

-- the file of these rows of n entries
abbrev pub file_of : Part → ℕ → List (List ℤ) → OutputFile
file_of part n rows =
    record { part = part; text = text_of_rows n rows; rows = length rows; norms = sum_by norm rows }

-- the files of a command, each with exactly one wanted list of the user's own system: that of
-- `graver`; all minimal solutions; or the homogeneous and then the inhomogeneous ones
abbrev pub AreOutputsOf : Tool → UserSystem → ℕ → List OutputFile → Type 0
AreOutputsOf Graver U n files =
    (rows : List (List ℤ)) × IsWantedGraverForUser U rows × (files ≡ file_of Gra n rows ∷ [])
AreOutputsOf Hilbert U n files =
    (rows : List (List ℤ)) × IsWantedForUser U Every rows × (files ≡ file_of Hil n rows ∷ [])
AreOutputsOf Zsolve U n files =
    (hom inhom : List (List ℤ)) × IsWantedForUser U Homogeneous hom
    × IsWantedForUser U Inhomogeneous inhom
    × (files ≡ file_of Zhom n hom ∷ file_of Zinhom n inhom ∷ [])

-- the project's files after each of these was written anew, in order
abbrev pub written_all : List ℕ → List OutputFile → Files → Files
written_all project [] files = files
written_all project (f ∷ fs) files =
    written_all project fs (written (file_name project f.part) f.text files)

-- the files that are written: none with tables, whose rows are only counted
abbrev pub to_write : Option ℕ → List OutputFile → List OutputFile
to_write None outputs = outputs
to_write (Some k) outputs = []

-- the numbers of the summary: all rows, and the sum of their norms
abbrev pub total_rows : List OutputFile → ℕ
total_rows files = sum_by (λ f. f.rows) files

abbrev pub norms_in : List OutputFile → ℕ
norms_in files = sum_by (λ f. f.norms) files

-- ---- runs that go on from a restart file
-- x is the first n entries of a nonzero solution of that kind
pub record IsPartOfSolution (S : LinearSystem) (n : ℕ) (kind : SolutionKind) (x : List ℤ)
    : Type 0 where
  pub solution : List ℤ
  pub solves : IsSolution S solution
  pub x0 : HasX0 kind solution
  pub is : x ≡ take n solution

abbrev pub ArePartsOfSolutions : ToolSystem → SolutionKind → List (List ℤ) → Type 0
ArePartsOfSolutions S kind rows = AllByRecursion (IsPartOfSolution S.equations S.n kind) rows

-- the files of a command, each with solutions alone
abbrev pub AreSoundOf : Tool → ToolSystem → List OutputFile → Type 0
AreSoundOf Graver S files =
    (rows : List (List ℤ)) × ArePartsOfSolutions S Every rows × (files ≡ file_of Gra S.n rows ∷ [])
AreSoundOf Hilbert S files =
    (rows : List (List ℤ)) × ArePartsOfSolutions S Every rows × (files ≡ file_of Hil S.n rows ∷ [])
AreSoundOf Zsolve S files =
    (hom inhom : List (List ℤ)) × ArePartsOfSolutions S Homogeneous hom
    × ArePartsOfSolutions S Inhomogeneous inhom
    × (files ≡ file_of Zhom S.n hom ∷ file_of Zinhom S.n inhom ∷ [])

-- the files of a run from its start. From nothing they have exactly the wanted rows. So they have from the stage of
-- a restart file whose lists are the defined ones, as those of each earlier run of the system are; from any other
-- accepted file each row is that of some solution
abbrev pub AreOutputs : Plan → Start → List OutputFile → Type 0
AreOutputs p (Fresh S) files = AreOutputsOf p.tool (user_of p) p.input.mat.cols files
AreOutputs p (Resumed s slot) files =
    (IsDefined s → AreOutputsOf p.tool (user_of p) p.input.mat.cols files)
    × AreSoundOf p.tool (system_of_plan p) files
