-- Empty buckets come behind, so each bucket reads as before: one that is not there reads as empty.
use Rattle.std.proofs.Common.{◌≡◌, ◌+◌, ◌-◌, ◌≤◌, ℕ, [], length, get_or, vec_len}
use Rattle.reduce_tree.proofs.index.grow.Given as goal

abbrev pub invariant-loop-alloc : goal.invariant-loop-alloc
invariant-loop-alloc l = record {
  kept : (b : ℕ) → get_or l.buckets.items b [] ≡ get_or l.initial.buckets.items b [];
  count : length l.initial.buckets.items ≤ length l.buckets.items;
}

abbrev pub decreases-loop-alloc : goal.decreases-loop-alloc
decreases-loop-alloc l = l.bucket + 1 - vec_len l.buckets
