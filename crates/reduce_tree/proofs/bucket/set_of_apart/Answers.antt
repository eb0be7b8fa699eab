use Rattle.std.proofs.Common.{◌<◌, arith}
use Rattle.reduce_tree.proofs.Eights.{apart_none, apart_next}
use Rattle.reduce_tree.proofs.bucket.set_of_apart.Goals as goal

pub loop-k-init : goal.loop-k-init
loop-k-init c = apart_none c.args.rows.now c.args.outside

pub loop-k-preserved : goal.loop-k-preserved
loop-k-preserved c =
    let small : c.loop-k.k < 8 = omega arith in
    apart_next c.args.rows.now c.args.outside c.loop-k.k c.loop-k.set c.from.result small c.loop-k.invariant c.from.ensures
