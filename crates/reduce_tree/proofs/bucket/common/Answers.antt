use Rattle.reduce_tree.proofs.Buckets.{covers_step}
use Rattle.reduce_tree.proofs.bucket.common.Goals as goal

pub loop-filed-preserved : goal.loop-filed-preserved
loop-filed-preserved c =
    covers_step c.args.rows.now c.loop-filed.filed-index c.min.result c.min-in-loop-filed.result c.loop-filed.word c.loop-filed.invariant c.min.ensures c.min-in-loop-filed.ensures
