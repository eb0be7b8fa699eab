use Rattle.lift_run.specs.Runs.{bounds}
use Rattle.lift_run.proofs.Walking.{run_ends}
use Rattle.lift_run.proofs.stages.run_system.Goals as goal

pub returns-clause-end : goal.returns-clause-end
returns-clause-end g c = run_ends (bounds c.args.limits) c.args.system c.in_ok-first.first c.run.result c.in_ok-first.ensures.first (c.run.ensures.defined c.in_ok-first.ensures.defined)
