-- Each way out of the steps behind the words is an end of the plan.
use Rattle.std.proofs.Common.{Err, ap, ◌∙◌, arith}
use Rattle.std.specs.Prelude.{Some}
use Rattle.outside.specs.Causes.{Rose}
use Rattle.tool_top.specs.Inside.Ends.{end_of}
use Rattle.tool_top.proofs.Conclusions.{ends-early, ends-names, ends-start, ends-carried, start_fault, start_not_out, start_not_usage, tells-start}
use Rattle.tool_top.proofs.top.attempt.Goals as goal

pub returns-in_err-shaped-clause-ends : goal.returns-in_err-shaped-clause-ends
returns-in_err-shaped-clause-ends g c =
    ends-early c.args.tool c.args.job.now (g.F.Folder.held c.args.folder.now) (g.F.Folder.held
    c.read_job.new.folder) (g.O.Sink.held c.args.out.now) c.in_err-shaped.field-0.0 c.from_residual.result
    c.read_job.ensures.same c.in_err-shaped.ensures.input c.from_residual.ensures.1

pub returns-in_err-names-clause-ends : goal.returns-in_err-names-clause-ends
returns-in_err-names-clause-ends g c =
    ends-names c.args.tool c.args.job.now (g.F.Folder.held c.args.folder.now) (g.F.Folder.held
    c.read_job.new.folder) (g.O.Sink.held c.args.out.now) c.from_residual-in_err-names.result
    c.read_job.ensures.same c.from_residual-in_err-names.ensures.1

pub returns-in_err-start-clause-ends : goal.returns-in_err-start-clause-ends
returns-in_err-start-clause-ends g c =
    ends-start c.args.tool c.args.job.now c.in_ok-shaped.shaped.input (g.F.Folder.held
    c.args.folder.now) (g.F.Folder.held c.read_job.new.folder) (g.F.Folder.held
    c.find_start.new.folder) (g.O.Sink.held c.args.out.now)
    c.in_ok-shaped.shaped.system c.in_err-start.field-0.0 c.from_residual-in_err-start.result
    c.read_job.ensures.same c.find_start.ensures.same c.in_ok-shaped.ensures.input
    c.in_ok-shaped.ensures.shaped.is
    c.in_err-start.ensures.found c.from_residual-in_err-start.ensures.1

pub returns-in_err-start-clause-tells : goal.returns-in_err-start-clause-tells
returns-in_err-start-clause-tells g c = tells-start (Some c.args.job.now) (g.O.Sink.held
    c.args.out.now) c.from_residual-in_err-start.result c.in_err-start.field-0.0
    c.from_residual-in_err-start.ensures.1

pub returns-in_err-start-clause-words : goal.returns-in_err-start-clause-words
returns-in_err-start-clause-words g c = start_not_usage c.from_residual-in_err-start.result
    c.in_err-start.field-0.0 c.from_residual-in_err-start.ensures.1

pub returns-in_err-start-clause-folder_fault : goal.returns-in_err-start-clause-folder_fault
returns-in_err-start-clause-folder_fault g c =
    λ p is other. start_fault c.from_residual-in_err-start.result c.in_err-start.field-0.0 (Rose
    (g.F.Folder.faults c.args.folder.now) (g.F.Folder.faults c.find_start.new.folder)) p
    c.from_residual-in_err-start.ensures.1
    (λ slot failed. omega (
      arith,
      c.read_job.ensures.cause.later,
      c.in_err-start.ensures.cause.failed slot (ap Err failed),
    )) is

pub returns-in_err-start-clause-out_fault : goal.returns-in_err-start-clause-out_fault
returns-in_err-start-clause-out_fault g c = λ is. absurd (start_not_out
    c.from_residual-in_err-start.result c.in_err-start.field-0.0 c.from_residual-in_err-start.ensures.1 is)

pub returns-clause-ends : goal.returns-clause-ends
returns-clause-ends g c =
    ends-carried c.args.tool c.args.job.now c.in_ok-shaped.shaped.input (g.F.Folder.held
    c.args.folder.now) (g.F.Folder.held c.read_job.new.folder) (g.F.Folder.held c.find_start.new.folder)
    (g.F.Folder.held c.carry_out.new.folder) (g.O.Sink.held c.args.out.now) (g.O.Sink.held
    c.carry_out.new.out) c.in_ok-shaped.shaped.system c.in_ok-start.start (end_of c.carry_out.result)
    c.read_job.ensures.same c.find_start.ensures.same c.in_ok-shaped.ensures.input
    c.in_ok-shaped.ensures.shaped c.in_ok-start.ensures.found
    (λ stored shaped starts. c.carry_out.ensures.ends c.args.tool c.in_ok-shaped.shaped.input stored
    shaped starts)

pub returns-clause-apart : goal.returns-clause-apart
returns-clause-apart g c = λ some. c.carry_out.ensures.apart some ∙ c.find_start.ensures.apart some
    ∙ c.read_job.ensures.apart some
