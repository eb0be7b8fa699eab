use Rattle.std.proofs.Common.{ap}
use Rattle.stage_store.specs.Stage.{listed_of}
use Rattle.stage_store.proofs.Indexed.{find_result_before}
use Rattle.stage_store.proofs.stage.Stage.find_before.Goals as goal

pub returns : goal.returns
returns c = find_result_before c.find_below_before.result c.self.inside.tree c.self.inside.listed c.args.self.now.listed c.args.z.now c.args.end c.self.invariant.indexed (ap listed_of c.self.view_is) c.find_below_before.ensures
