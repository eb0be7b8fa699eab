use Rattle.circuit_tool.proofs.Concluding.{published_ends}
use Rattle.circuit_tool.proofs.top.write_rows.Goals as goal

pub returns-in-Ok-clause-ends : goal.returns-in-Ok-clause-ends
returns-in-Ok-clause-ends g c =
    let r = c.in-Ok.ensures in
    published_ends c.args.project.now c.args.sets.now r.0 c.in-Ok.grid c.requires.kernel r.1 r.2 c.requires.columns.0 r.3
    (g.F.Folder.held c.args.folder.now) (g.F.Folder.held c.publish.new.folder) (g.O.Sink.held c.args.out.now) (g.O.Sink.held c.publish.new.out) c.publish.result c.publish.ensures.published
