-- Which end comes.
use Rattle.std.specs.Prelude.{◌≡◌, ℕ, ℤ, Bool, true, false, List, Result, Ok, Err}
use Rattle.lift_core.specs.Systems.{ToolSystem}
use Rattle.lift_core.specs.Ends.{Limits, norm_overflow, row_overflow, pairs_spent, rows_spent, finished}
use Rattle.lift_core.specs.Ends.{End as LiftEnd}
use Rattle.lift_run.specs.declared.ends.Place.TheVariants.{Row, Norm}
use Rattle.restart_file.specs.declared.ends.RestartFault.{RestartFault}
use Rattle.tool_words.specs.declared.jobs.Job.{Job}
use Rattle.backups.specs.declared.starts.Start.{Start}
use Rattle.backups.specs.declared.starts.Start.TheVariants.{Fresh}
use Rattle.backups.specs.Starts.{Stored, Resumes, HasFirstFault, StartComesTo}
use Rattle.tool_top.specs.declared.ends.End.{End}
use Rattle.tool_top.specs.declared.ends.End.TheVariants.{Done, BadRestart, Overflow, Pairs, Rows, Outside, Memory}
use Rattle.tool_top.specs.Plan.{Plan, resumes, system_of_plan}
use Rattle.tool_top.specs.Outputs.{OutputFile, AreOutputs, total_rows, norms_in}

-- the pair budget and the row budget of the words
abbrev pub limits_of : Job → Limits
limits_of job = record { pairs = job.pairs; rows = job.rows }

-- from nothing, or from the restart file that is taken
abbrev pub Starts : Bool → ToolSystem → Stored → Start → Type 0
Starts false S stored start = start ≡ Fresh S
Starts true S stored start = Resumes S stored start

-- the plan's run starts so
abbrev pub StartsAs : Plan → Start → Type 0
StartsAs p start = Starts (resumes p.job) (system_of_plan p) p.stored start

-- neither restart file is accepted, and these are the first faults of both
pub record AreRefused (p : Plan) (first second : RestartFault) : Type 0 where
  pub resumed : resumes p.job ≡ true
  pub first_fault : HasFirstFault (system_of_plan p) p.stored.first first
  pub second_fault : HasFirstFault (system_of_plan p) p.stored.second second

-- the run of the plan's system within the limits comes to this
abbrev pub RunComesTo : Plan → LiftEnd → Type 0
RunComesTo p end = (start : Start) × StartsAs p start × StartComesTo (limits_of p.job) start end

-- the run is finished with so many used pairs, and these are its outputs
pub record Finishes (p : Plan) (pairs : ℕ) (outputs : List OutputFile) : Type 0 where
  pub start : Start
  pub starts : StartsAs p start
  pub rows : List (List ℤ)
  pub comes : StartComesTo (limits_of p.job) start (finished rows pairs)
  pub wanted : AreOutputs p start outputs

-- the run is finished, and these are the numbers of its outputs
pub record HasNumbers (p : Plan) (solutions pairs norms : ℕ) : Type 0 where
  pub outputs : List OutputFile
  pub finishes : Finishes p pairs outputs
  pub solutions_are : solutions ≡ total_rows outputs
  pub norms_are : norms ≡ norms_in outputs

-- what a plan comes to within the limits
abbrev pub PlanComesTo : Plan → End → Type 0
PlanComesTo p (Done solutions pairs norms) = HasNumbers p solutions pairs norms
PlanComesTo p (BadRestart first second) = AreRefused p first second
PlanComesTo p (Overflow stage (Row v)) = RunComesTo p (row_overflow stage v)
PlanComesTo p (Overflow stage (Norm d)) = RunComesTo p (norm_overflow stage d)
PlanComesTo p (Pairs stage d needed) = RunComesTo p (pairs_spent stage d needed)
PlanComesTo p (Rows stage d count) = RunComesTo p (rows_spent stage d count)
PlanComesTo p end = ⊥

-- the end that the words and the files decide: the first answer, or what the plan comes to
abbrev pub IsExpected : Result Plan End → End → Type 0
IsExpected (Ok plan) end = PlanComesTo plan end
IsExpected (Err answer) end = end ≡ answer

-- the expected end; a device's fault and running out of memory come by themselves
abbrev pub IsExpectedOr : Result Plan End → End → Type 0
IsExpectedOr plan (Outside part) = Unit {0}
IsExpectedOr plan Memory = Unit {0}
IsExpectedOr plan end = IsExpected plan end

-- at Done, this
abbrev pub OnDone : End → Type 0 → Type 0
OnDone (Done solutions pairs norms) fact = fact
OnDone end fact = Unit {0}
