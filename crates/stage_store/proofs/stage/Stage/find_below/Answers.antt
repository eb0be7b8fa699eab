use Rattle.std.proofs.Common.{ap}
use Rattle.stage_store.specs.Stage.{listed_of}
use Rattle.stage_store.proofs.Indexed.{find_result}
use Rattle.stage_store.proofs.stage.Stage.find_below.Goals as goal

pub returns : goal.returns
returns c = find_result c.find_below.result c.self.inside.tree c.self.inside.listed c.args.self.now.listed c.args.z.now c.self.invariant.indexed (ap listed_of c.self.view_is) c.find_below.ensures
