-- The buckets of the classes that were taken off hold no row below z; that of the lowest class left is read row by row,
-- and one past the end of the buckets is empty.
use Rattle.std.proofs.Common.{arith}
use Rattle.reduce_tree.specs.Inside.Searches.{HasNoneIn}
use Rattle.reduce_tree.proofs.Searches.{left_begun, left_less, kid_read, none_at, none_past}
use Rattle.reduce_tree.proofs.index.Index.find_under_third.Goals as goal

pub loop-rest-init : goal.loop-rest-init
loop-rest-init c =
    left_begun c.args.self.now.third c.args.bounds.now.classes (HasNoneIn c.args.self.now c.args.pool.now.rows c.args.z.now c.args.bounds.now) c.args.branch c.classes.result c.classes.ensures

pub loop-rest-preserved : goal.loop-rest-preserved
loop-rest-preserved c =
    left_less c.args.self.now.third c.args.bounds.now.classes (HasNoneIn c.args.self.now c.args.pool.now.rows c.args.z.now c.args.bounds.now) c.args.branch c.loop-rest.rest c.without-rest.result c.lowest-class.result c.without-rest.ensures.others
    (kid_read c.args.self.now.third c.args.bounds.now.classes (HasNoneIn c.args.self.now c.args.pool.now.rows c.args.z.now c.args.bounds.now) c.args.branch c.lowest-class.result c.in-Some.kid c.in-Some.ensures
    (none_at c.args.self.now c.args.pool.now.rows c.args.z.now c.args.bounds.now c.in-Some.kid c.index-bucket.result.now (omega (arith, c.if-kid-len.false, c.len.ensures, c.args.self.now.buckets.ok)) c.index-bucket.ensures c.in_default-find_below.ensures)) c.loop-rest.invariant

pub loop-rest-preserved-then-kid-len : goal.loop-rest-preserved-then-kid-len
loop-rest-preserved-then-kid-len c =
    left_less c.args.self.now.third c.args.bounds.now.classes (HasNoneIn c.args.self.now c.args.pool.now.rows c.args.z.now c.args.bounds.now) c.args.branch c.loop-rest.rest c.without-rest.result c.lowest-class.result c.without-rest.ensures.others
    (kid_read c.args.self.now.third c.args.bounds.now.classes (HasNoneIn c.args.self.now c.args.pool.now.rows c.args.z.now c.args.bounds.now) c.args.branch c.lowest-class.result c.in-Some.kid c.in-Some.ensures
    (none_past c.args.self.now c.args.pool.now.rows c.args.z.now c.args.bounds.now c.in-Some.kid (omega (arith, c.if-kid-len.true, c.len.ensures, c.args.self.now.buckets.ok)))) c.loop-rest.invariant
