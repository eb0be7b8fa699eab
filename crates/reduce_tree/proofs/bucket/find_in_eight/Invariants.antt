use Rattle.std.proofs.Common.{◌≡◌, ◌<◌, ℕ, length}
use Rattle.std.specs.Int.{bit_at}
use Rattle.reduce_tree.proofs.Eights.{AreLookedAt}
use Rattle.reduce_tree.proofs.bucket.find_in_eight.Given as goal

abbrev pub decreases-loop-rest : goal.decreases-loop-rest
decreases-loop-rest l = l.rest

abbrev pub invariant-loop-rest : goal.invariant-loop-rest
invariant-loop-rest l = record {
  inside : (k : ℕ) → bit_at l.rest k ≡ 1 → k < length l.rows;
  looked_at : AreLookedAt l.rows l.pool.rows l.z l.bounds l.rest;
}
