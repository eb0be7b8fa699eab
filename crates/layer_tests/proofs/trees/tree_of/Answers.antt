use Rattle.layer_tests.proofs.trees.tree_of.Goals as goal

pub returns : goal.returns
returns c = c.truncate.ensures.fits c.args.pool.now c.in_ok-tree.ensures.0
