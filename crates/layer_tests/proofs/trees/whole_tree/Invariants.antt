use Rattle.std.proofs.Common.{◌≡◌, length}
use Rattle.reduce_tree.specs.Tree.{Fits, places_of}
use Rattle.layer_tests.proofs.trees.whole_tree.Given as goal

abbrev pub invariant-loop-place : goal.invariant-loop-place
invariant-loop-place l = record { fits : Fits l.tree l.pool; count : length (places_of l.tree) ≡ l.place }
