-- The words and the files give the plan.
use Rattle.std.proofs.Common.{sym}
use Rattle.decompose_tool.proofs.Plans.{in_shape, ends_finished, whole_finished}
use Rattle.decompose_tool.proofs.top.finish.Goals as goal

pub conclude-requires-clause-shape : goal.conclude-requires-clause-shape
conclude-requires-clause-shape g c = in_shape c.in-Some.asked.tool c.columns.result c.in-Ok.shaped.input.mat.cols c.in-Ok-read_sets.sets c.columns.ensures c.in-Ok-read_sets.ensures.fits

pub returns-in-Ok-read_sets-clause-ends : goal.returns-in-Ok-read_sets-clause-ends
returns-in-Ok-read_sets-clause-ends g c =
    ends_finished c.args.words.now c.in-Some.asked.tool c.in-Some.asked.project.now c.in-Ok.shaped c.in-Ok-read_sets.sets c.columns.result (sym c.in-Some.ensures) c.columns.ensures c.in-Ok.ensures.tool
    (g.F.Folder.held c.args.folder.now) (g.F.Folder.held c.read_system.new.folder) (g.F.Folder.held c.read_sets.new.folder) (g.F.Folder.held c.conclude.new.folder)
    (g.O.Sink.held c.args.out.now) (g.O.Sink.held c.conclude.new.out) c.conclude.result c.in-Ok.ensures.same c.in-Ok-read_sets.ensures.same c.in-Ok.ensures.input c.in-Ok-read_sets.ensures.sets c.conclude.ensures.ends

pub returns-in-Ok-read_sets-clause-whole : goal.returns-in-Ok-read_sets-clause-whole
returns-in-Ok-read_sets-clause-whole g c =
    whole_finished c.args.words.now c.in-Some.asked.tool c.in-Some.asked.project.now c.in-Ok.shaped c.in-Ok-read_sets.sets c.columns.result (sym c.in-Some.ensures) c.columns.ensures c.in-Ok.ensures.tool
    (g.F.Folder.held c.args.folder.now) (g.F.Folder.held c.read_system.new.folder) c.conclude.result c.in-Ok.ensures.same c.in-Ok.ensures.input c.in-Ok-read_sets.ensures.sets c.conclude.ensures.whole
