use Rattle.std.proofs.Common.{◌-◌, ◌*◌}
use Rattle.reduce_tree.specs.Inside.Buckets.{AreNoneBelow}
use Rattle.reduce_tree.proofs.bucket.Bucket.find_below.Given as goal

abbrev pub decreases-loop-eight : goal.decreases-loop-eight
decreases-loop-eight l = l.whole - l.eight

abbrev pub invariant-loop-eight : goal.invariant-loop-eight
invariant-loop-eight l = AreNoneBelow l.self l.pool.rows l.z l.bounds (8 * l.eight)
