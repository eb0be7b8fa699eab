-- The output files of a tool, and what a run leaves.
use Rattle.std.specs.Prelude.{◌≡◌, ◌⊎◌, ℕ, List, [], ◌∷◌, ◌++◌, Option, Some}
use Rattle.std.specs.Option.{option_map}
use Rattle.std.specs.Io.KnownBytes.{append_known}
use Rattle.outside.specs.Files.{Files}
use Rattle.outside.specs.Pieces.{MayPut}
use Rattle.solution_files.specs.Outputs.{written, MayWrite}

-- an output file: its ending, and its text
pub record OutputFile : Type 0 where
  pub ending : List ℕ
  pub text : List ℕ

-- the project's files after each of these was written anew, in order
abbrev pub written_all : List ℕ → List OutputFile → Files → Files
written_all project [] files = files
written_all project (f ∷ fs) files =
    written_all project fs (written (project ++ f.ending) f.text files)

-- one of the files is as before, empty or has a prefix of its text, those before it are whole, and
-- those after it are as before
abbrev pub IsCut : List ℕ → List OutputFile → Option Files → Option Files → Type 0
IsCut project [] old new = ⊥
IsCut project (f ∷ fs) old new =
    MayWrite (project ++ f.ending) f.text old new
    ⊎ IsCut project fs (option_map (written (project ++ f.ending) f.text) old) new

-- what a run found and what it left: the files, and the bytes of standard output and standard error
pub record Traces : Type 0 where
  pub files_before : Files
  pub files_after : Option Files
  pub out_before : Option (List ℕ)
  pub out_after : Option (List ℕ)

-- no file changed, and nothing was put
pub record IsUntouched (t : Traces) : Type 0 where
  pub files : t.files_after ≡ Some t.files_before
  pub out : t.out_after ≡ t.out_before

-- all is written, and told
pub record IsWhole (project : List ℕ) (outputs : List OutputFile) (summary : List ℕ) (t : Traces)
    : Type 0 where
  pub files : t.files_after ≡ Some (written_all project outputs t.files_before)
  pub out : t.out_after ≡ append_known t.out_before summary

-- the writing was cut in one of the files, and nothing was put
pub record IsCutInFiles (project : List ℕ) (outputs : List OutputFile) (t : Traces) : Type 0 where
  pub files : IsCut project outputs (Some t.files_before) t.files_after
  pub out : t.out_after ≡ t.out_before

-- all files are whole, and a prefix of the summary was put
pub record IsCutInSummary (project : List ℕ) (outputs : List OutputFile) (summary : List ℕ)
    (t : Traces) : Type 0 where
  pub files : t.files_after ≡ Some (written_all project outputs t.files_before)
  pub out : MayPut summary t.out_before t.out_after

abbrev pub IsPartly : List ℕ → List OutputFile → List ℕ → Traces → Type 0
IsPartly project outputs summary t =
    IsCutInFiles project outputs t ⊎ IsCutInSummary project outputs summary t
