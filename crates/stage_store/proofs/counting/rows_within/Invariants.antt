-- All rows from `high` on have a norm above the most.
use Rattle.std.proofs.Common.{ℕ, [], ◌-◌, ◌≤◌, ◌<◌, length, slice_index_or}
use Rattle.lift_core.specs.Stages.{stage_norm}
use Rattle.stage_store.proofs.counting.rows_within.Given as goal

abbrev pub invariant-loop-low : goal.invariant-loop-low
invariant-loop-low l = record {
  order : l.low ≤ l.high;
  within : l.high ≤ length l.listed.rows;
  behind : (k : ℕ) → l.high ≤ k → k < length l.listed.rows → l.most < stage_norm (slice_index_or l.listed.rows k []);
}

abbrev pub decreases-loop-low : goal.decreases-loop-low
decreases-loop-low l = l.high - l.low
