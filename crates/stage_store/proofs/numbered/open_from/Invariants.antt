-- Halving: all open pairs before `low` have numbers below `first`, and those from `high` on have not.
use Rattle.std.proofs.Common.{ℕ, ◌-◌, ◌≤◌, ◌<◌, length, slice_index_or}
use Rattle.stage_store.specs.declared.opened.OpenPair.{OpenPair}
use Rattle.stage_store.specs.Opened.{open_number}
use Rattle.stage_store.proofs.numbered.open_from.Given as goal

abbrev pub invariant-loop-low : goal.invariant-loop-low
invariant-loop-low l = record {
  order : l.low ≤ l.high;
  within : l.high ≤ length l.pairs;
  before : (k : ℕ) (d : OpenPair) → k < l.low → open_number (slice_index_or l.pairs k d) < l.first;
  after : (k : ℕ) (d : OpenPair) → l.high ≤ k → k < length l.pairs → l.first ≤ open_number (slice_index_or l.pairs k d);
}

abbrev pub decreases-loop-low : goal.decreases-loop-low
decreases-loop-low l = l.high - l.low
