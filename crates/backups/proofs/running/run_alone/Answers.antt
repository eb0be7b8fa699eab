use Rattle.std.specs.Prelude.{◌≡◌, Some}
use Rattle.lift_run.specs.Runs.{bounds}
use Rattle.backups.proofs.Leaving.{leaves_nothing}
use Rattle.backups.proofs.running.run_alone.Goals as goal

pub returns-clause-leaves : goal.returns-clause-leaves
returns-clause-leaves g c =
    λ names files. leaves_nothing {X = Unit {0}} (λ s stage. s) (λ s stage t. t ≡ s) (bounds
    c.args.limits) c.args.from c.run.result (Some tt) (Some tt) names files c.run.ensures.kept
