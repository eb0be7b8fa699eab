-- One stage more is done, or the run ends.
use Rattle.std.proofs.Common.{arith, refl, ◌∙◌}
use Rattle.lift_run.specs.Runs.{bounds}
use Rattle.lift_run.proofs.Walking.{stays, goes_next, goes_last, goes_nowhere, runs_stop, fewer_left, leads_system}
use Rattle.lift_run.proofs.stages.run_stages.Goals as goal

pub loop-stage-init : goal.loop-stage-init
loop-stage-init g c = record { goes = stays g.K.Keep.after (bounds c.args.limits) c.args.first (g.K.Keep.state c.args.keep.now); told = refl; later = omega arith }

pub returns-in_err-run_stage-clause-runs : goal.returns-in_err-run_stage-clause-runs
returns-in_err-run_stage-clause-runs g c =
    runs_stop g.K.Keep.after g.K.Keep.torn (bounds c.args.limits) c.args.first c.loop-stage.stage c.in_err-run_stage.field-0.0 c.from_residual.result (g.K.Keep.state c.args.keep.now) (g.K.Keep.state c.loop-stage.keep) (g.K.Keep.state c.run_stage.new.keep)
    c.from_residual.ensures.1 c.loop-stage.invariant.goes c.in_err-run_stage.ensures.closes

pub returns-in_err-next-clause-runs : goal.returns-in_err-next-clause-runs
returns-in_err-next-clause-runs g c =
    goes_nowhere g.K.Keep.after g.K.Keep.torn (bounds c.args.limits) c.args.first c.loop-stage.stage c.run_stage.new.stage c.in_err-next.field-0.0 c.from_residual-in_err-next.result (g.K.Keep.state c.args.keep.now) (g.K.Keep.state c.loop-stage.keep) (g.K.Keep.state c.run_stage.new.keep)
    c.from_residual-in_err-next.ensures.1 c.loop-stage.invariant.goes c.in_ok-run_stage.ensures.closes.0 c.in_ok-run_stage.ensures.closes.1 c.in_err-next.ensures.lifted

pub loop-stage-smaller : goal.loop-stage-smaller
loop-stage-smaller g c =
    fewer_left c.loop-stage.stage c.run_stage.new.stage c.in-Next.next (leads_system (bounds c.args.limits) c.in_ok-run_stage.ensures.closes.0.leads) c.in_ok-run_stage.ensures.closes.2 (rw c.in-Next.is at c.in_ok-next.ensures.lifted)

pub loop-stage-preserved : goal.loop-stage-preserved
loop-stage-preserved g c = record {
  goes =
      goes_next g.K.Keep.after (bounds c.args.limits) c.args.first c.loop-stage.stage c.run_stage.new.stage c.in-Next.next (g.K.Keep.state c.args.keep.now) (g.K.Keep.state c.loop-stage.keep) (g.K.Keep.state c.run_stage.new.keep) c.in_ok-next.field-0
      c.in-Next.is c.loop-stage.invariant.goes c.in_ok-run_stage.ensures.closes.0 c.in_ok-run_stage.ensures.closes.1 c.in_ok-next.ensures.lifted c.in_ok-next.ensures.defined;
  told = c.in_ok-run_stage.ensures.told ∙ c.loop-stage.invariant.told;
  later = omega (arith, c.loop-stage.invariant.later, c.in_ok-run_stage.ensures.cause.later);
}

pub returns-in-Last-clause-runs : goal.returns-in-Last-clause-runs
returns-in-Last-clause-runs g c =
    goes_last g.K.Keep.after (bounds c.args.limits) c.args.first c.loop-stage.stage c.run_stage.new.stage c.in-Last.finish (g.K.Keep.state c.args.keep.now) (g.K.Keep.state c.loop-stage.keep) (g.K.Keep.state c.run_stage.new.keep) c.in_ok-next.field-0
    c.in-Last.is c.loop-stage.invariant.goes c.in_ok-run_stage.ensures.closes.0 c.in_ok-run_stage.ensures.closes.1 c.in_ok-next.ensures.lifted c.in_ok-next.ensures.defined

pub run_stage-requires-clause-asks : goal.run_stage-requires-clause-asks
run_stage-requires-clause-asks g c κs within = λ s d. c.requires.asks s (λ f. d (c.loop-stage.invariant.goes.defined f))
