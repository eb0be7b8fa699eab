use Rattle.reduce_tree.proofs.Trees.{whole_result}
use Rattle.reduce_tree.proofs.tree.Tree.find_below.Goals as goal

pub returns : goal.returns
returns c = whole_result c.find_below_before.result c.args.self.now c.args.pool.now c.args.z.now c.len.result c.requires.fits c.len.ensures c.find_below_before.ensures
