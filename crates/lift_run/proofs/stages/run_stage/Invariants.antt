-- The run goes on from the stage as it is now, and each turn closes a greater norm.
use Rattle.std.proofs.Common.{◌≡◌, ◌≤◌, ◌-◌}
use Rattle.std.specs.Prelude.{is_some}
use Rattle.lift_run.specs.Runs.{bounds}
use Rattle.lift_run.specs.Inside.Steps.{GoesOn}
use Rattle.lift_run.proofs.stages.run_stage.Given as goal

abbrev pub invariant-loop-norm : goal.invariant-loop-norm
invariant-loop-norm g l = record {
  goes : GoesOn g.K.Keep.after (bounds l.limits) l.initial.stage l.stage (g.K.Keep.state l.fn.keep) (g.K.Keep.state l.keep);
  number : l.stage.number ≡ l.initial.stage.number;
  told : is_some (g.K.Keep.state l.keep) ≡ is_some (g.K.Keep.state l.fn.keep);
  later : g.K.Keep.faults l.fn.keep ≤ g.K.Keep.faults l.keep;
}

abbrev pub decreases-loop-norm : goal.decreases-loop-norm
decreases-loop-norm g l = 9223372036854775807 - l.stage.norm
