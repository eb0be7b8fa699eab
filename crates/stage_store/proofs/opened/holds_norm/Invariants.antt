use Rattle.std.proofs.Common.{◌≡◌, ◌<◌, ℕ, slice_index_or}
use Rattle.stage_store.specs.declared.sieve.KeptPair.{KeptPair}
use Rattle.stage_store.proofs.opened.holds_norm.Given as goal

abbrev pub invariant-loop-k : goal.invariant-loop-k
invariant-loop-k l = (k : ℕ) (d : KeptPair) → k < l.k → (slice_index_or l.kept k d).norm ≡ l.e → ⊥
