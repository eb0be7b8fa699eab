-- The pairs with the first k of the group are sifted, and what was kept stays.
use Rattle.std.proofs.Common.{◌≡◌, ◌<◌, ℕ, length, slice_index_or}
use Rattle.stage_store.specs.Sieve.{AreBothSifted}
use Rattle.stage_store.specs.Shelves.{Stay}
use Rattle.stage_store.proofs.sieve.sift_group.Given as goal

abbrev pub invariant-loop-k : goal.invariant-loop-k
invariant-loop-k l = record {
  count : length l.shelves.shelves.items ≡ 256;
  stay : Stay l.fn.shelves l.shelves;
  sifted : (k : ℕ) → k < l.k → AreBothSifted l.side l.system.equations l.listed.rows l.shelves l.mirror l.i (slice_index_or l.others k 0);
}
