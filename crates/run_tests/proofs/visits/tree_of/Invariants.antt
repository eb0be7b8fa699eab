use Rattle.reduce_tree.specs.Tree.{Fits}
use Rattle.run_tests.proofs.visits.tree_of.Given as goal

abbrev pub invariant-loop-i : goal.invariant-loop-i
invariant-loop-i l = Fits l.tree l.pool
