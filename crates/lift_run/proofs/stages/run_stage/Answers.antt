-- One norm more is closed, or the run ends in this stage.
use Rattle.std.proofs.Common.{arith, refl, ◌∙◌}
use Rattle.lift_run.specs.Runs.{bounds}
use Rattle.lift_run.proofs.Walking.{stays, goes_further, closes_stop}
use Rattle.lift_run.proofs.stages.run_stage.Goals as goal

pub loop-norm-init : goal.loop-norm-init
loop-norm-init g c = record { goes = stays g.K.Keep.after (bounds c.args.limits) c.args.stage.now (g.K.Keep.state c.args.keep.now); number = refl; told = refl; later = omega arith }

pub loop-norm-preserved : goal.loop-norm-preserved
loop-norm-preserved g c = record {
  goes =
      goes_further g.K.Keep.after (bounds c.args.limits) c.args.stage.now c.loop-norm.stage c.close_norm.new.stage (g.K.Keep.state c.args.keep.now) (g.K.Keep.state c.loop-norm.keep) (g.K.Keep.state c.close_norm.new.keep) c.loop-norm.invariant.goes
      c.in_ok-close_norm.ensures.closes.0;
  number = c.in_ok-close_norm.ensures.closes.2 ∙ c.loop-norm.invariant.number;
  told = c.in_ok-close_norm.ensures.told ∙ c.loop-norm.invariant.told;
  later = omega (arith, c.loop-norm.invariant.later, c.in_ok-close_norm.ensures.cause.later);
}

pub returns-in_err-close_norm-clause-closes : goal.returns-in_err-close_norm-clause-closes
returns-in_err-close_norm-clause-closes g c =
    closes_stop g.K.Keep.after g.K.Keep.torn (bounds c.args.limits) c.args.stage.now c.loop-norm.stage c.close_norm.new.stage c.in_err-close_norm.field-0.0 c.from_residual-in_err-close_norm.result (g.K.Keep.state c.args.keep.now) (g.K.Keep.state c.loop-norm.keep) (g.K.Keep.state c.close_norm.new.keep)
    c.from_residual-in_err-close_norm.ensures.1 c.loop-norm.invariant.goes c.in_err-close_norm.ensures.closes

pub close_norm-requires-clause-asked : goal.close_norm-requires-clause-asked
close_norm-requires-clause-asked g c κs within = c.requires.asks c.loop-norm.stage c.loop-norm.invariant.goes.defined
