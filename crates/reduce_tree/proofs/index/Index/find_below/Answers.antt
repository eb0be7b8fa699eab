-- The branches of the classes that were taken off hold no row below z, and the kid of the lowest class left is searched
-- in turn; when no class is left, none is below.
use Rattle.reduce_tree.specs.Inside.Searches.{HasNoneUnderSecond}
use Rattle.reduce_tree.proofs.Searches.{left_begun, left_less, kid_read}
use Rattle.reduce_tree.proofs.index.Index.find_below.Goals as goal

pub loop-rest-init : goal.loop-rest-init
loop-rest-init c =
    left_begun c.args.self.now.first c.args.bounds.now.classes (HasNoneUnderSecond c.args.self.now c.args.pool.now.rows c.args.z.now c.args.bounds.now) c.args.branch c.classes.result c.classes.ensures

pub loop-rest-preserved : goal.loop-rest-preserved
loop-rest-preserved c =
    left_less c.args.self.now.first c.args.bounds.now.classes (HasNoneUnderSecond c.args.self.now c.args.pool.now.rows c.args.z.now c.args.bounds.now) c.args.branch c.loop-rest.rest c.without-rest.result c.lowest-class.result c.without-rest.ensures.others
    (kid_read c.args.self.now.first c.args.bounds.now.classes (HasNoneUnderSecond c.args.self.now c.args.pool.now.rows c.args.z.now c.args.bounds.now) c.args.branch c.lowest-class.result c.in-Some.kid c.in-Some.ensures
    (c.in_default-find_under_second.ensures)) c.loop-rest.invariant
