use Rattle.std.proofs.Common.{◌<◌, ℕ, get_or}
use Rattle.reduce_tree.specs.Inside.Bounds.{Covers}
use Rattle.reduce_tree.specs.Inside.Buckets.{nothing_filed}
use Rattle.reduce_tree.proofs.bucket.common.Given as goal

abbrev pub invariant-loop-filed : goal.invariant-loop-filed
invariant-loop-filed l = (k : ℕ) → k < l.filed-index → Covers l.word (get_or l.rows k nothing_filed)
