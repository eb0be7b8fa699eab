-- The run goes on from the stage in hand, and each turn leaves one stage fewer.
use Rattle.std.proofs.Common.{◌≡◌, ◌≤◌, ◌-◌, length}
use Rattle.std.specs.Prelude.{is_some}
use Rattle.lift_run.specs.Runs.{bounds}
use Rattle.lift_run.specs.Inside.Steps.{GoesOn}
use Rattle.lift_run.proofs.stages.run_stages.Given as goal

abbrev pub invariant-loop-stage : goal.invariant-loop-stage
invariant-loop-stage g l = record {
  goes : GoesOn g.K.Keep.after (bounds l.limits) l.fn.first l.stage (g.K.Keep.state l.fn.keep) (g.K.Keep.state l.keep);
  told : is_some (g.K.Keep.state l.keep) ≡ is_some (g.K.Keep.state l.fn.keep);
  later : g.K.Keep.faults l.fn.keep ≤ g.K.Keep.faults l.keep;
}

abbrev pub decreases-loop-stage : goal.decreases-loop-stage
decreases-loop-stage g l = length l.stage.system.equations.rows - l.stage.number
