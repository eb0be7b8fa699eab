use Rattle.reduce_tree.specs.Inside.Searches.{HoldsOfSearched, HasNoneIn}
use Rattle.reduce_tree.proofs.index.Index.find_under_third.Given as goal

abbrev pub invariant-loop-rest : goal.invariant-loop-rest
invariant-loop-rest l = HoldsOfSearched l.self.third l.bounds.classes l.rest (HasNoneIn l.self l.pool.rows l.z l.bounds) l.branch

abbrev pub decreases-loop-rest : goal.decreases-loop-rest
decreases-loop-rest l = l.rest
