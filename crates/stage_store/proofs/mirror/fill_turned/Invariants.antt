use Rattle.std.proofs.Common.{◌≡◌, ◌<◌, ℕ, length, slice_index_or}
use Rattle.stage_store.specs.Mirror.{turned_item}
use Rattle.stage_store.proofs.mirror.fill_turned.Given as goal

abbrev pub invariant-loop-k : goal.invariant-loop-k
invariant-loop-k l = record {
  count : length l.turned ≡ length l.fn.turned;
  each : (k : ℕ) → k < l.k → slice_index_or l.turned k 0 ≡ slice_index_or l.levels (turned_item k) 0;
}
