-- A system that is not read is an end of its plan, and so is that of the run.
use Rattle.std.proofs.Common.{◌∙◌, Err, ap, arith, inl, subst}
use Rattle.std.specs.Prelude.{Some}
use Rattle.outside.specs.Causes.{Rose}
use Rattle.tool_top.specs.Inside.Ends.{end_of}
use Rattle.stand_tool.specs.Ends.{StandsFor}
use Rattle.stand_tool.proofs.StandingFor.{ends-stop, tells-stop, not_usage_at_stop, outside_at_stop, ends-ran, outside_of}
use Rattle.stand_tool.proofs.top.attempt.Goals as goal

pub returns-in-Ok-clause-ends : goal.returns-in-Ok-clause-ends
returns-in-Ok-clause-ends g c =
    ends-ran c.args.request.now.tool c.args.request.now.job (g.F.Folder.held c.args.folder.now) (g.F.Folder.held
    c.read_job.new.folder) (g.F.Folder.held c.carry_out-outcome.new.folder) (g.O.Sink.held c.args.out.now) (g.O.Sink.held
    c.carry_out-outcome.new.out) c.read_job.result c.in-Ok.shaped (end_of c.carry_out-outcome.result) c.end_for.result
    c.in-Ok.is c.read_job.ensures.same c.requires.plain c.read_job.ensures.input c.read_job.ensures.shaped
    (subst (StandsFor c.end_for.result) c.settle.ensures c.end_for.ensures)
    (λ stored shaped starts. c.carry_out-outcome.ensures.ends c.args.request.now.tool c.in-Ok.shaped.input stored shaped starts)

pub returns-in-Ok-clause-tells : goal.returns-in-Ok-clause-tells
returns-in-Ok-clause-tells g c = (
  end_of c.carry_out-outcome.result,
  subst (StandsFor c.end_for.result) c.settle.ensures c.end_for.ensures,
  c.carry_out-outcome.ensures.tells,
)

pub returns-in-Err-clause-ends : goal.returns-in-Err-clause-ends
returns-in-Err-clause-ends g c =
    ends-stop c.args.request.now.tool c.args.request.now.job (g.F.Folder.held c.args.folder.now) (g.F.Folder.held
    c.read_job.new.folder) (g.O.Sink.held c.args.out.now) c.read_job.result c.in-Err.stopped c.from.result c.in-Err.is
    c.read_job.ensures.same c.read_job.ensures.input c.from.ensures

pub returns-in-Err-clause-tells : goal.returns-in-Err-clause-tells
returns-in-Err-clause-tells g c =
    tells-stop (Some c.args.request.now.job) (g.O.Sink.held c.args.out.now) c.in-Err.stopped c.from.result c.from.ensures

pub returns-in-Err-clause-words : goal.returns-in-Err-clause-words
returns-in-Err-clause-words g c = not_usage_at_stop c.in-Err.stopped c.from.result c.from.ensures

pub returns-in-Err-clause-outside : goal.returns-in-Err-clause-outside
returns-in-Err-clause-outside g c =
    outside_at_stop c.in-Err.stopped c.from.result _ c.from.ensures
    (λ source failed. inl (c.read_job.ensures.cause.failed source (c.in-Err.is ∙ ap Err failed)))

pub returns-in-Ok-clause-outside : goal.returns-in-Ok-clause-outside
returns-in-Ok-clause-outside g c =
    outside_of (Rose (g.F.Folder.faults c.args.folder.now) (g.F.Folder.faults c.carry_out-outcome.new.folder)) (Rose
    (g.O.Sink.faults c.args.out.now) (g.O.Sink.faults c.carry_out-outcome.new.out)) c.end_for.result
    (end_of c.carry_out-outcome.result) (subst (StandsFor c.end_for.result) c.settle.ensures c.end_for.ensures)
    (λ p is other. omega (arith, c.read_job.ensures.cause.later, c.carry_out-outcome.ensures.folder_fault p is other))
    c.carry_out-outcome.ensures.out_fault
