-- The ends of a run without backups are those that the command has one for.
use Rattle.std.proofs.Common.{◌≡◌, ℕ, List, Option, Result, Ok, Err, IsErrAnd, sym, ◌∙◌}
use Rattle.outside.specs.Files.{Files}
use Rattle.lift_run.specs.declared.ends.RunEnd.{RunEnd}
use Rattle.lift_run.specs.declared.ends.RunEnd.TheVariants as ran
use Rattle.standing_pool.specs.declared.ends.StandEnd.{StandEnd}
use Rattle.standing_pool.specs.declared.ends.StandEnd.TheVariants as run
use Rattle.standing_pool.specs.Ends.{run_end_of}
use Rattle.backups.specs.declared.running.Stopped.{Stopped}
use Rattle.backups.specs.declared.starts.Slot.{Slot}
use Rattle.tool_words.specs.declared.jobs.Job.{Job}
use Rattle.tool_top.specs.declared.ends.End.{End}
use Rattle.tool_top.specs.declared.ends.End.TheVariants as top
use Rattle.tool_top.specs.declared.ends.Totals.{Totals}
use Rattle.tool_top.specs.Outputs.{OutputFile}
use Rattle.tool_top.specs.Inside.Ends.{end_of_run, end_of_stopped, end_of}
use Rattle.tool_top.specs.Inside.Writing.{CutsTo, TellsOf}
use Rattle.tool_top.proofs.Conclusions.{at_error}
use Rattle.stand_tool.specs.Inside.Ends.{IsOfRun}

-- no end of a run with a team is a refused backup
pub never_fails : (e : StandEnd) (r : RunEnd) → r ≡ run_end_of e → r ≡ ran.Failed → ⊥
never_fails (run.Overflow k place) r is f = let e : run_end_of (run.Overflow k place) ≡ ran.Failed = sym is ∙ f in absurd (cc)
never_fails (run.Pairs k d n) r is f = let e : run_end_of (run.Pairs k d n) ≡ ran.Failed = sym is ∙ f in absurd (cc)
never_fails (run.Rows k d n) r is f = let e : run_end_of (run.Rows k d n) ≡ ran.Failed = sym is ∙ f in absurd (cc)
never_fails run.Memory r is f = let e : run_end_of run.Memory ≡ ran.Failed = sym is ∙ f in absurd (cc)

-- a run that did not finish
of_stopped : (next : Slot) (e : RunEnd) → IsOfRun (end_of_run next e)
of_stopped next (ran.Overflow k place) = tt
of_stopped next (ran.Pairs k d n) = tt
of_stopped next (ran.Rows k d n) = tt
of_stopped next ran.Failed = tt
of_stopped next ran.Memory = tt

pub run-stopped : (r : Result Totals End) (s : Stopped) → IsErrAnd r (λ y. y ≡ end_of_stopped s) → IsOfRun (end_of r)
run-stopped r s err = at_error IsOfRun r (end_of_stopped s) err (of_stopped s.next s.end)

-- memory ran out
pub run-memory : (r : Result Totals End) → IsErrAnd r (λ y. y ≡ top.Memory) → IsOfRun (end_of r)
run-memory r err = at_error IsOfRun r top.Memory err tt

-- the writing was cut
of_cut : (project : List ℕ) (outputs : List OutputFile) (old new : Option Files) (e : End) → CutsTo project outputs old new e → IsOfRun e
of_cut project outputs old new (top.Outside part) cut = tt
of_cut project outputs old new top.Memory cut = tt
of_cut project outputs old new e cut = absurd cut

pub run-cut : (project : List ℕ) (outputs : List OutputFile) (old new : Option Files) (r : Result Totals End) (e : End)
    → CutsTo project outputs old new e → IsErrAnd r (λ y. y ≡ e) → IsOfRun (end_of r)
run-cut project outputs old new r e cut err = at_error IsOfRun r e err (of_cut project outputs old new e cut)

-- the summary was put or cut
pub run-told : (job : Job) (outputs : List OutputFile) (used : ℕ) (old new : Option (List ℕ)) (r : Result Totals End)
    → TellsOf job outputs used old new r → IsOfRun (end_of r)
run-told job outputs used old new (Ok totals) h = tt
run-told job outputs used old new (Err (top.Outside part)) h = tt
run-told job outputs used old new (Err top.Memory) h = tt
run-told job outputs used old new (Err e) h = absurd h
