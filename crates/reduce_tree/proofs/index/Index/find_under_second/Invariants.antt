use Rattle.reduce_tree.specs.Inside.Searches.{HoldsOfSearched, HasNoneUnderThird}
use Rattle.reduce_tree.proofs.index.Index.find_under_second.Given as goal

abbrev pub invariant-loop-rest : goal.invariant-loop-rest
invariant-loop-rest l = HoldsOfSearched l.self.second l.bounds.classes l.rest (HasNoneUnderThird l.self l.pool.rows l.z l.bounds) l.branch

abbrev pub decreases-loop-rest : goal.decreases-loop-rest
decreases-loop-rest l = l.rest
