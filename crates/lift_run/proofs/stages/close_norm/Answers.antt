-- The norm is closed and the Keep told, or the run ends at it.
use Rattle.lift_run.specs.Runs.{bounds}
use Rattle.lift_run.proofs.Walking.{goes_closed, norm_stop, norm_torn}
use Rattle.lift_run.proofs.stages.close_norm.Goals as goal

pub returns-in_err-list_norm-clause-closes : goal.returns-in_err-list_norm-clause-closes
returns-in_err-list_norm-clause-closes g c =
    norm_stop g.K.Keep.after g.K.Keep.torn (bounds c.args.limits) c.args.norm c.args.stage.now c.list_norm.new.stage c.in_err-list_norm.field-0.0 c.from_residual.result (g.K.Keep.state c.args.keep.now) c.from_residual.ensures.1 c.in_err-list_norm.ensures.lists

pub returns-in_err-norm_closed-clause-closes : goal.returns-in_err-norm_closed-clause-closes
returns-in_err-norm_closed-clause-closes g c =
    norm_torn g.K.Keep.after g.K.Keep.torn (bounds c.args.limits) c.args.norm c.args.stage.now c.list_norm.new.stage c.in_err-norm_closed.field-0.0 c.from_residual-in_err-norm_closed.result (g.K.Keep.state c.args.keep.now) (g.K.Keep.state c.norm_closed.new.self)
    c.from_residual-in_err-norm_closed.ensures.1 c.in_ok-list_norm.ensures.lists.0 c.in_err-norm_closed.ensures.refused

pub returns-clause-closes : goal.returns-clause-closes
returns-clause-closes g c = (
  goes_closed g.K.Keep.after (bounds c.args.limits) c.args.stage.now c.list_norm.new.stage (g.K.Keep.state c.args.keep.now) (g.K.Keep.state c.norm_closed.new.self) c.in_ok-list_norm.ensures.lists.0 c.in_ok-list_norm.ensures.lists.2 c.in_ok-norm_closed.ensures.done,
  c.in_ok-list_norm.ensures.lists.1,
  c.in_ok-list_norm.ensures.lists.0.published.number,
)
