use Rattle.reduce_tree.specs.Inside.Searches.{HoldsOfSearched, HasNoneUnderSecond}
use Rattle.reduce_tree.proofs.index.Index.find_below.Given as goal

abbrev pub invariant-loop-rest : goal.invariant-loop-rest
invariant-loop-rest l = HoldsOfSearched l.self.first l.bounds.classes l.rest (HasNoneUnderSecond l.self l.pool.rows l.z l.bounds) l.branch

abbrev pub decreases-loop-rest : goal.decreases-loop-rest
decreases-loop-rest l = l.rest
