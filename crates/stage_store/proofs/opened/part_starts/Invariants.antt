-- The total is the number of the pairs of the classes before this one, and each of those has its start written.
use Rattle.std.proofs.Common.{◌≡◌, ◌<◌, ℕ, take, length, slice_index_or}
use Rattle.std.specs.List.{sum_by}
use Rattle.stage_store.specs.Classes.{part_size}
use Rattle.stage_store.proofs.opened.part_starts.Given as goal

abbrev pub invariant-loop-c : goal.invariant-loop-c
invariant-loop-c l = record {
  total : l.total ≡ sum_by (λ c. part_size l.minus l.e c) (take l.c-index l.plus);
  count : length l.starts.items ≡ l.c-index;
  each : (k : ℕ) → k < l.c-index → slice_index_or l.starts.items k 0 ≡ sum_by (λ c. part_size l.minus l.e c) (take k l.plus);
}
