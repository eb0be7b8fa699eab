-- The pairs with the first groups of the table are sifted, and what was kept stays.
use Rattle.std.proofs.Common.{◌≡◌, ◌<◌, ◌*◌, ℕ, length, slice_index_or}
use Rattle.stage_store.specs.Sieve.{AreBothSifted}
use Rattle.stage_store.specs.Shelves.{Stay}
use Rattle.stage_store.proofs.sieve.sift_first.Given as goal

abbrev pub invariant-loop-group : goal.invariant-loop-group
invariant-loop-group l = record {
  count : length l.shelves.shelves.items ≡ 256;
  stay : Stay l.fn.shelves l.shelves;
  sifted : (k : ℕ) → k < 64 * l.group → k < l.end → AreBothSifted l.side l.system.equations l.listed.rows l.shelves l.mirror l.i (slice_index_or l.table.ids.items k 0);
}
