-- The pairs of the first k rows of one table are sifted, and what was kept stays.
use Rattle.std.proofs.Common.{◌≡◌, ◌<◌, ℕ, [], length, slice_index_or}
use Rattle.stage_store.specs.Sieve.{AreSiftedBy}
use Rattle.stage_store.specs.Shelves.{Stay}
use Rattle.stage_store.proofs.anew.sift_tables.Given as goal
use Rattle.stage_store.specs.declared.side.Side.TheVariants.{Plus}

abbrev pub invariant-loop-k : goal.invariant-loop-k
invariant-loop-k l = record {
  count : length l.shelves.shelves.items ≡ 256;
  stay : Stay l.fn.shelves l.shelves;
  sifted : (k : ℕ) → k < l.k → AreSiftedBy Plus l.system.equations l.listed.rows l.shelves [] (slice_index_or l.plus.ids.items k 0) l.minus.ids.items;
}
