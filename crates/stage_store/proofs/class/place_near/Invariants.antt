-- All norms before the place are below n.
use Rattle.std.proofs.Common.{ℕ, ◌-◌, ◌≤◌, ◌<◌, length}
use Rattle.stage_store.specs.Classes.{norm_at}
use Rattle.stage_store.proofs.class.place_near.Given as goal

abbrev pub invariant-loop-place : goal.invariant-loop-place
invariant-loop-place l = record {
  within : l.place ≤ length l.classes;
  before : (k : ℕ) → k < l.place → norm_at l.classes k < l.n;
}

abbrev pub decreases-loop-place : goal.decreases-loop-place
decreases-loop-place l = length l.classes - l.place
