use Rattle.reduce_tree.specs.Inside.Buckets.{AreNoneBelow}
use Rattle.reduce_tree.proofs.bucket.find_among.Given as goal

abbrev pub invariant-loop-filed : goal.invariant-loop-filed
invariant-loop-filed l = AreNoneBelow l.rows l.pool.rows l.z l.bounds l.filed-index
