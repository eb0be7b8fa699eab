use Rattle.std.proofs.Common.{◌≡◌, ◌<◌, ℕ, pos, slice_index_or}
use Rattle.std.specs.Prelude.{neg_ℤ}
use Rattle.stage_store.proofs.mirror.is_negative.Given as goal

abbrev pub invariant-loop-k : goal.invariant-loop-k
invariant-loop-k l = (k : ℕ) → k < l.k → slice_index_or l.u k (pos 0) ≡ neg_ℤ (slice_index_or l.v k (pos 0))
