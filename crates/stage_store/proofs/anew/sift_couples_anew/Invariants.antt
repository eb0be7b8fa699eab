-- The pairs of the first k rows of one table with those before them in the other, and with their negatives, are sifted.
use Rattle.std.proofs.Common.{◌≡◌, ◌<◌, ℕ, length}
use Rattle.stage_store.specs.Sieve.{IsCoupleSifted}
use Rattle.stage_store.specs.Shelves.{Stay}
use Rattle.stage_store.proofs.anew.sift_couples_anew.Given as goal

abbrev pub invariant-loop-k : goal.invariant-loop-k
invariant-loop-k l = record {
  count : length l.shelves.shelves.items ≡ 256;
  stay : Stay l.fn.shelves l.shelves;
  sifted : (k : ℕ) → k < l.k → IsCoupleSifted l.system.equations l.listed.rows l.shelves l.mirror l.plus.ids.items l.minus.ids.items k;
}
