use Rattle.std.proofs.Common.{sym}
use Rattle.circuit_tool.proofs.Concluding.{ends_concluded}
use Rattle.circuit_tool.proofs.top.finish.Goals as goal

pub returns-in-Ok-clause-ends : goal.returns-in-Ok-clause-ends
returns-in-Ok-clause-ends g c =
    ends_concluded c.args.words.now c.in-Some.project.now c.in-Ok.sets (g.F.Folder.held c.args.folder.now) (g.F.Folder.held c.read_sets.new.folder) (g.F.Folder.held c.conclude.new.folder)
    (g.O.Sink.held c.args.out.now) (g.O.Sink.held c.conclude.new.out) c.conclude.result (sym c.in-Some.ensures) c.read_sets.ensures.same c.in-Ok.ensures.sets c.conclude.ensures.ends
