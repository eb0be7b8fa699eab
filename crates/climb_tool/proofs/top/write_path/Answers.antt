-- From the path to what is written of it, or to why nothing is.
use Rattle.std.proofs.Common.{◌≤◌, length, arith}
use Rattle.climb_tool.proofs.Leading.{is_climb, point_long}
use Rattle.climb_tool.proofs.Concluding.{published_ends, stopped_ends}
use Rattle.climb_tool.proofs.top.write_path.Goals as goal

pub returns-in-Ok-clause-ends : goal.returns-in-Ok-clause-ends
returns-in-Ok-clause-ends g c =
    let p = c.args.problem.now in
    let r = c.lay_out.ensures in
    let point = c.in-Ok.path.point.items in
    let results = c.lay_out.result in
    let few : length r.taken ≤ c.args.budget = omega (arith, r.walk.count, c.in-Ok.ensures.2) in
    published_ends c.args.project.now p c.args.budget r.taken point results.opt results.steps results.reached
    (is_climb p c.args.budget r.taken point c.requires.problem c.requires.kernel r.walk.leads r.walk.within c.in-Ok.ensures.1 few)
    (point_long p point c.requires.problem r.walk.within) r.walk.lengths r.opt_is r.steps_is r.reached_is
    (g.F.Folder.held c.args.folder.now) (g.F.Folder.held c.publish.new.folder) (g.O.Sink.held c.args.out.now) (g.O.Sink.held c.publish.new.out)
    c.publish.result c.publish.ensures.published

pub returns-in-Err-clause-ends : goal.returns-in-Err-clause-ends
returns-in-Err-clause-ends g c =
    stopped_ends c.args.project.now c.args.problem.now c.args.budget (g.F.Folder.held c.args.folder.now) (g.O.Sink.held c.args.out.now) c.in-Err.stop
    c.requires.kernel c.in-Err.ensures
