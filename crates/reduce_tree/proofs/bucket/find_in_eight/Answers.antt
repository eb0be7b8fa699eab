-- The lowest number that is left is that of a row; it is looked at, and is not left any more.
use Rattle.std.proofs.Common.{ℕ, ◌*◌, ◌%◌, ◌^◌, refl}
use Rattle.std.specs.Int.{trailing_zeros, bit_not, w8}
use Rattle.reduce_tree.specs.Inside.Buckets.{IsMarked}
use Rattle.reduce_tree.proofs.Bits.{set_of_both, cleared_less}
use Rattle.reduce_tree.proofs.Buckets.{filed_at}
use Rattle.reduce_tree.proofs.Eights.{first_set, looked_at_begun, looked_at_more}
use Rattle.reduce_tree.proofs.bucket.find_in_eight.Goals as goal

pub loop-rest-init : goal.loop-rest-init
loop-rest-init c = record {
  inside = λ k s. ((c.set_of_apart-rest.ensures k).0 s).0;
  looked_at = looked_at_begun c.args.rows.now c.args.pool.now.rows c.args.z.now c.args.bounds.now c.set_of_apart-rest.result c.requires.marked c.set_of_apart-rest.ensures;
}

pub bounds-rows-k : goal.bounds-rows-k
bounds-rows-k c = c.loop-rest.invariant.inside (trailing_zeros w8 c.loop-rest.rest) (first_set c.loop-rest.rest c.loop-rest-test.true c.loop-rest.auto.rest-fits.fits).1

pub is_found-requires-clause-marked : goal.is_found-requires-clause-marked
is_found-requires-clause-marked c =
    filed_at (IsMarked c.args.pool.now.rows c.args.z.now c.args.bounds.now) c.args.rows.now (trailing_zeros w8 c.loop-rest.rest) c.requires.marked
    (c.loop-rest.invariant.inside (trailing_zeros w8 c.loop-rest.rest) (first_set c.loop-rest.rest c.loop-rest-test.true c.loop-rest.auto.rest-fits.fits).1)

pub bounds-rows-k-then-is_found : goal.bounds-rows-k-then-is_found
bounds-rows-k-then-is_found c =
    c.loop-rest.invariant.inside (trailing_zeros w8 c.loop-rest.rest) (first_set c.loop-rest.rest c.loop-rest-test.true c.loop-rest.auto.rest-fits.fits).1

pub returns-then-is_found : goal.returns-then-is_found
returns-then-is_found c =
    let found = c.if-is_found.ensures.0 refl in (
      trailing_zeros w8 c.loop-rest.rest,
      c.loop-rest.invariant.inside (trailing_zeros w8 c.loop-rest.rest) (first_set c.loop-rest.rest c.loop-rest-test.true c.loop-rest.auto.rest-fits.fits).1,
      refl,
      found.0,
      found.1,
    )

pub loop-rest-smaller : goal.loop-rest-smaller
loop-rest-smaller c =
    let first = first_set c.loop-rest.rest c.loop-rest-test.true c.loop-rest.auto.rest-fits.fits in
    cleared_less w8 c.loop-rest.rest (trailing_zeros w8 c.loop-rest.rest) first.0 first.1

pub loop-rest-preserved : goal.loop-rest-preserved
loop-rest-preserved c =
    let first = first_set c.loop-rest.rest c.loop-rest-test.true c.loop-rest.auto.rest-fits.fits in
    let k : ℕ = trailing_zeros w8 c.loop-rest.rest in
    record {
      inside = λ j s. c.loop-rest.invariant.inside j (set_of_both c.loop-rest.rest (bit_not w8 (1 * 2 ^ k % 2 ^ 8)) j s);
      looked_at = looked_at_more c.args.rows.now c.args.pool.now.rows c.args.z.now c.args.bounds.now c.loop-rest.rest k c.loop-rest.auto.rest-fits.fits first.0
          (λ before below. let h = c.if-is_found.ensures.1 (before, below) in absurd cc) c.loop-rest.invariant.looked_at;
    }
