use Rattle.std.proofs.Common.{sym}
use Rattle.climb_tool.proofs.Concluding.{ends_concluded}
use Rattle.climb_tool.proofs.top.finish.Goals as goal

pub returns-in-Ok-clause-ends : goal.returns-in-Ok-clause-ends
returns-in-Ok-clause-ends g c =
    ends_concluded c.args.words.now (record { project = c.in-Some.command.project.now; budget = c.in-Some.command.budget }) c.in-Ok.problem
    (g.F.Folder.held c.args.folder.now) (g.F.Folder.held c.read_problem.new.folder) (g.F.Folder.held c.conclude.new.folder)
    (g.O.Sink.held c.args.out.now) (g.O.Sink.held c.conclude.new.out) c.conclude.result (sym c.in-Some.ensures.command) c.read_problem.ensures.same
    c.in-Ok.ensures.problem c.conclude.ensures.ends
