-- What stands in the folder and on standard output at each end.
use Rattle.std.specs.Prelude.{◌≡◌, ◌⊎◌, ℕ, List, [], ◌∷◌, true, Option, Some, Result, Ok, Err, IsOkAnd}
use Rattle.std.specs.Option.{option_map}
use Rattle.std.specs.Io.KnownBytes.{append_known}
use Rattle.outside.specs.Files.{Files}
use Rattle.outside.specs.Pieces.{MayPut}
use Rattle.lift_core.specs.Ends.{norm_overflow, row_overflow, pairs_spent, rows_spent, finished}
use Rattle.lift_core.specs.Ends.{End as LiftEnd}
use Rattle.lift_run.specs.declared.ends.Place.TheVariants.{Row, Norm}
use Rattle.solution_files.specs.Outputs.{written, MayWrite}
use Rattle.backups.specs.declared.starts.Start.{Start}
use Rattle.backups.specs.Starts.{StartComesTo, first_slot}
use Rattle.backups.specs.Standing.{Turns, turns_from, LeavesRun}
use Rattle.tool_words.specs.declared.jobs.Job.{Job}
use Rattle.tool_top.specs.declared.ends.Part.{Part}
use Rattle.tool_top.specs.declared.ends.Part.TheVariants.{Ckp0, Ckp1, Gra, Hil, Zhom, Zinhom, Out}
use Rattle.tool_top.specs.declared.ends.End.{End}
use Rattle.tool_top.specs.declared.ends.End.TheVariants.{Done, Overflow, Pairs, Rows, Outside, Memory}
use Rattle.tool_top.specs.Names.{file_name}
use Rattle.tool_top.specs.Plan.{Plan, project_of, interval_for, resumes}
use Rattle.tool_top.specs.Outputs.{OutputFile, to_write, written_all, total_rows, norms_in}
use Rattle.tool_top.specs.Expected.{limits_of, StartsAs, Finishes}
use Rattle.tool_top.specs.Summary.{summary_of}

-- what a run found and what it left: the files, and the bytes of standard output
pub record Traces : Type 0 where
  pub files_before : Files
  pub files_after : Option Files
  pub out_before : Option (List ℕ)
  pub out_after : Option (List ℕ)

-- no file changed, and nothing was put
pub record IsUntouched (t : Traces) : Type 0 where
  pub files : t.files_after ≡ Some t.files_before
  pub out : t.out_after ≡ t.out_before

-- ---- restart files
-- how often the job's run writes a restart file, and the two names in turn: the first backup of a resumed run goes
-- to the file that was not taken
abbrev pub turns_for : Job → Start → Turns
turns_for job start = turns_from (first_slot start) (interval_for job.tables job.backup)
    (file_name (project_of job) Ckp0) (file_name (project_of job) Ckp1)

-- the files that the plan's run leaves, all its backups among them, where it comes to this end; where it broke off, those
-- of the first norms that it closes, and the next one, which goes to the file of this name, may be torn
abbrev pub BacksUp : Plan → Start → Result LiftEnd (List ℕ) → Files → Option Files → Type 0
BacksUp p start came before after = LeavesRun (turns_for p.job start) (limits_of p.job) start came
    before after

-- the run came to this end, and nothing was written but its backups
pub record IsStopped (p : Plan) (t : Traces) (end : LiftEnd) : Type 0 where
  pub start : Start
  pub starts : StartsAs p start
  pub comes : StartComesTo (limits_of p.job) start end
  pub files : BacksUp p start (Ok end) t.files_before t.files_after
  pub out : t.out_after ≡ t.out_before

-- the run broke off, nothing was written but backups, and this is the restart file of the next one
pub record IsBrokenOff (p : Plan) (t : Traces) (part : Part) : Type 0 where
  pub start : Start
  pub starts : StartsAs p start
  pub files : BacksUp p start (Err (file_name (project_of p.job) part)) t.files_before t.files_after
  pub out : t.out_after ≡ t.out_before

-- the run broke off at this restart file, or it was to be read, and nothing has changed
abbrev pub IsCutInRestart : Plan → Traces → Part → Type 0
IsCutInRestart p t part = ((resumes p.job ≡ true) × IsUntouched t) ⊎ IsBrokenOff p t part

-- ---- output files
-- the run is finished, all its backups are whole, all output files hold their texts, and all other
-- files are as before
pub record HasWritten (p : Plan) (before : Files) (after : Option Files) : Type 0 where
  pub pairs : ℕ
  pub outputs : List OutputFile
  pub finishes : Finishes p pairs outputs
  pub files : Files
  pub backups : BacksUp p finishes.start (Ok (finished finishes.rows pairs)) before (Some files)
  pub whole : after ≡ Some (written_all (project_of p.job) (to_write p.job.tables outputs) files)

-- and the summary was put
pub record IsConcluded (plan : Plan) (t : Traces) (solutions pairs norms : ℕ) : Type 0 where
  pub written : HasWritten plan t.files_before t.files_after
  pub out : t.out_after ≡ append_known t.out_before (summary_of plan.job solutions pairs norms)

-- one of the files is as before, empty or has a prefix of its text, those before it are whole, and
-- those after it are as before
abbrev pub IsCutAt : List ℕ → List OutputFile → Part → Option Files → Option Files → Type 0
IsCutAt project [] part old new = ⊥
IsCutAt project (f ∷ fs) part old new =
    ((part ≡ f.part) × MayWrite (file_name project f.part) f.text old new)
    ⊎ IsCutAt project fs part (option_map (written (file_name project f.part) f.text) old) new

-- the run was finished, and the writing of an output file was refused
pub record IsCutInFile (p : Plan) (t : Traces) (part : Part) : Type 0 where
  pub pairs : ℕ
  pub outputs : List OutputFile
  pub finishes : Finishes p pairs outputs
  pub files : Files
  pub backups : BacksUp p finishes.start (Ok (finished finishes.rows pairs)) t.files_before
      (Some files)
  pub cut : IsCutAt (project_of p.job) (to_write p.job.tables outputs) part
      (Some files) t.files_after
  pub out : t.out_after ≡ t.out_before

-- the run was finished, all output files are whole, and putting its summary was refused
pub record IsCutInSummary (p : Plan) (t : Traces) : Type 0 where
  pub pairs : ℕ
  pub outputs : List OutputFile
  pub finishes : Finishes p pairs outputs
  pub files : Files
  pub backups : BacksUp p finishes.start (Ok (finished finishes.rows pairs)) t.files_before
      (Some files)
  pub whole : t.files_after
      ≡ Some (written_all (project_of p.job) (to_write p.job.tables outputs) files)
  pub out : MayPut
      (summary_of p.job (total_rows outputs) pairs (norms_in outputs)) t.out_before t.out_after

-- ---- all ends
-- what a fault of this part leaves: of an output file, a prefix of its text may stand there; of
-- standard output, a prefix of the summary; of a restart file, the backups before it and a prefix
-- of its text, or nothing where it was to be read; of an input file, nothing has changed
abbrev pub LeavesCut : Result Plan End → Traces → Part → Type 0
LeavesCut plan t Ckp0 = IsOkAnd plan (λ p. IsCutInRestart p t Ckp0)
LeavesCut plan t Ckp1 = IsOkAnd plan (λ p. IsCutInRestart p t Ckp1)
LeavesCut plan t Gra = IsOkAnd plan (λ p. IsCutInFile p t Gra)
LeavesCut plan t Hil = IsOkAnd plan (λ p. IsCutInFile p t Hil)
LeavesCut plan t Zhom = IsOkAnd plan (λ p. IsCutInFile p t Zhom)
LeavesCut plan t Zinhom = IsOkAnd plan (λ p. IsCutInFile p t Zinhom)
LeavesCut plan t Out = IsOkAnd plan (λ p. IsCutInSummary p t)
LeavesCut plan t part = IsUntouched t

-- what stands at an end; running out of memory leaves what the fault of some part leaves
abbrev pub Leaves : Result Plan End → Traces → End → Type 0
Leaves plan t (Done solutions pairs norms) =
    IsOkAnd plan (λ p. IsConcluded p t solutions pairs norms)
Leaves plan t (Overflow stage (Row v)) = IsOkAnd plan (λ p. IsStopped p t (row_overflow stage v))
Leaves plan t (Overflow stage (Norm d)) = IsOkAnd plan (λ p. IsStopped p t (norm_overflow stage d))
Leaves plan t (Pairs stage d needed) =
    IsOkAnd plan (λ p. IsStopped p t (pairs_spent stage d needed))
Leaves plan t (Rows stage d count) = IsOkAnd plan (λ p. IsStopped p t (rows_spent stage d count))
Leaves plan t (Outside part) = LeavesCut plan t part
Leaves plan t Memory = (part : Part) × LeavesCut plan t part
Leaves plan t end = IsUntouched t
