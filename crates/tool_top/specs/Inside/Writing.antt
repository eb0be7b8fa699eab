-- The outputs as the code holds them, and what their writing and telling leave.
use Rattle.std.specs.Prelude.{◌≡◌, ℕ, ℤ, List, [], ◌∷◌, map, Option, Result, Ok, Err}
use Rattle.std.specs.Io.KnownBytes.{append_known}
use Rattle.outside.specs.Files.{Files}
use Rattle.int_vector.specs.Vectors.{norm}
use Rattle.mat_files.specs.Printed.{text_of}
use Rattle.lift_core.specs.Systems.{ToolSystem}
use Rattle.lift_core.specs.declared.Tool.{Tool}
use Rattle.lift_core.specs.declared.Tool.TheVariants.{Graver, Hilbert, Zsolve}
use Rattle.lift_core.specs.Columns.{SolutionKind, Every, Homogeneous, Inhomogeneous}
use Rattle.lift_core.specs.Inside.Written.{IsWanted, IsWantedGraver}
use Rattle.solution_files.specs.declared.selection.Kind.TheVariants.{All, Hom, Inhom}
use Rattle.solution_files.specs.Outputs.{IsSelected}
use Rattle.tool_words.specs.declared.jobs.Job.{Job}
use Rattle.tool_top.specs.declared.ends.Part.{Part}
use Rattle.tool_top.specs.declared.ends.Part.TheVariants.{Gra, Hil, Zhom, Zinhom, Out}
use Rattle.tool_top.specs.declared.ends.End.{End}
use Rattle.tool_top.specs.declared.ends.End.TheVariants.{Outside, Memory}
use Rattle.tool_top.specs.declared.ends.Totals.{Totals}
use Rattle.tool_top.specs.declared.outputs.Output.{Output}
use Rattle.tool_top.specs.declared.outputs.Outputs.{Outputs}
use Rattle.tool_top.specs.Outputs.{OutputFile, file_of, total_rows, norms_in}
use Rattle.outside.specs.Pieces.{MayPut}
use Rattle.tool_top.specs.Summary.{summary_of}
use Rattle.tool_top.specs.Left.{IsCutAt}

-- the rows that a tool selects from the minimal solutions of the linear system
abbrev pub IsWantedBy : Tool → ToolSystem → SolutionKind → List (List ℤ) → Type 0
IsWantedBy Graver S kind rows = IsWantedGraver S.equations S.n rows
IsWantedBy Hilbert S kind rows = IsWanted S.equations S.n kind rows
IsWantedBy Zsolve S kind rows = IsWanted S.equations S.n kind rows

-- the files of a tool, each with the rows of its kind that are selected from the finished ones
abbrev pub AreSelectedOf : Tool → ToolSystem → List (List ℤ) → List OutputFile → Type 0
AreSelectedOf Graver S finished files =
    (rows : List (List ℤ)) × IsSelected S finished All rows × (files ≡ file_of Gra S.n rows ∷ [])
AreSelectedOf Hilbert S finished files =
    (rows : List (List ℤ)) × IsSelected S finished All rows × (files ≡ file_of Hil S.n rows ∷ [])
AreSelectedOf Zsolve S finished files =
    (hom inhom : List (List ℤ)) × IsSelected S finished Hom hom × IsSelected S finished Inhom inhom
    × (files ≡ file_of Zhom S.n hom ∷ file_of Zinhom S.n inhom ∷ [])

-- the files of a tool for a linear system
abbrev pub AreFilesOf : Tool → ToolSystem → List OutputFile → Type 0
AreFilesOf Graver S files =
    (rows : List (List ℤ)) × IsWantedBy Graver S Every rows × (files ≡ file_of Gra S.n rows ∷ [])
AreFilesOf Hilbert S files =
    (rows : List (List ℤ)) × IsWantedBy Hilbert S Every rows × (files ≡ file_of Hil S.n rows ∷ [])
AreFilesOf Zsolve S files =
    (hom inhom : List (List ℤ)) × IsWantedBy Zsolve S Homogeneous hom
    × IsWantedBy Zsolve S Inhomogeneous inhom
    × (files ≡ file_of Zhom S.n hom ∷ file_of Zinhom S.n inhom ∷ [])

-- an output as a file, and all outputs in the order in which they are written
abbrev pub output_of : Output → OutputFile
output_of o =
    record { part = o.part; text = text_of o.grid; rows = o.grid.rows; norms = norm o.grid.cells }

abbrev pub outputs_of : Outputs → List OutputFile
outputs_of o = map output_of o.list.items

-- the writing of the outputs was cut at some file, by a fault of it or by running out of memory
abbrev pub CutsTo : List ℕ → List OutputFile → Option Files → Option Files → End → Type 0
CutsTo project outputs old new (Outside part) = IsCutAt project outputs part old new
CutsTo project outputs old new Memory = (part : Part) × IsCutAt project outputs part old new
CutsTo project outputs old new end = ⊥

-- the summary of outputs that are written was put
pub record IsTold (job : Job) (outputs : List OutputFile) (used : ℕ) (old new : Option (List ℕ))
    (totals : Totals) : Type 0 where
  pub solutions_are : totals.solutions ≡ total_rows outputs
  pub pairs_are : totals.pairs ≡ used
  pub norms_are : totals.norm_total ≡ norms_in outputs
  pub out : new ≡ append_known old (summary_of job totals.solutions totals.pairs totals.norm_total)

-- a prefix of it was put, and the end says why
abbrev pub IsCutShort : Job → List OutputFile → ℕ → Option (List ℕ) → Option (List ℕ) → End → Type 0
IsCutShort job outputs used old new (Outside part) =
    (part ≡ Out) × MayPut (summary_of job (total_rows outputs) used (norms_in outputs)) old new
IsCutShort job outputs used old new Memory =
    MayPut (summary_of job (total_rows outputs) used (norms_in outputs)) old new
IsCutShort job outputs used old new end = ⊥

abbrev pub TellsOf : Job → List OutputFile → ℕ → Option (List ℕ) → Option (List ℕ)
    → Result Totals End → Type 0
TellsOf job outputs used old new (Ok totals) = IsTold job outputs used old new totals
TellsOf job outputs used old new (Err end) = IsCutShort job outputs used old new end
