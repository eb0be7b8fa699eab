use Rattle.std.proofs.Common.{◌≡◌, ◌<◌, ℕ, length, slice_index_or}
use Rattle.stage_store.specs.Mirror.{place_in}
use Rattle.stage_store.proofs.mirror.are_couples.Given as goal

abbrev pub invariant-loop-k : goal.invariant-loop-k
invariant-loop-k l =
    (k : ℕ) → k < l.k
    → (slice_index_or l.plus k 0 < length l.mirror)
    × (place_in l.mirror (slice_index_or l.plus k 0) ≡ slice_index_or l.minus k 0)
