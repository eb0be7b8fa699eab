-- All norms before `low` are below n, and all from `high` on are not.
use Rattle.std.proofs.Common.{ℕ, ◌-◌, ◌≤◌, ◌<◌, length}
use Rattle.stage_store.specs.Classes.{norm_at}
use Rattle.stage_store.proofs.class.place_from.Given as goal

abbrev pub invariant-loop-low : goal.invariant-loop-low
invariant-loop-low l = record {
  order : l.low ≤ l.high;
  within : l.high ≤ length l.classes;
  before : (k : ℕ) → k < l.low → norm_at l.classes k < l.n;
  from : (k : ℕ) → l.high ≤ k → k < length l.classes → l.n ≤ norm_at l.classes k;
}

abbrev pub decreases-loop-low : goal.decreases-loop-low
decreases-loop-low l = l.high - l.low
