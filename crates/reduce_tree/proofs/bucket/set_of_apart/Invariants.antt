use Rattle.reduce_tree.specs.Inside.Buckets.{IsSetOfApart}
use Rattle.reduce_tree.proofs.bucket.set_of_apart.Given as goal

abbrev pub invariant-loop-k : goal.invariant-loop-k
invariant-loop-k l = IsSetOfApart l.rows l.outside l.k l.set
