use Rattle.stage_store.proofs.Reaches.{found_reduces}
use Rattle.stage_store.proofs.reach.find_listed.Goals as goal

pub returns : goal.returns
returns c = found_reduces c.find_below.result c.args.tree.now c.args.listed.now c.args.z.now c.requires.indexed c.find_below.ensures
