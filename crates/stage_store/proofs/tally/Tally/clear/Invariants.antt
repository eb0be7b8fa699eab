-- The first i numbers are 0 again.
use Rattle.std.proofs.Common.{◌≡◌, ◌<◌, ℕ}
use Rattle.stage_store.specs.Tallies.{noted, IsInRange}
use Rattle.stage_store.proofs.tally.Tally.clear.Given as goal

abbrev pub invariant-loop-i : goal.invariant-loop-i
invariant-loop-i l = record {
  range : IsInRange l.self;
  base_is : l.self.base ≡ l.base;
  span_is : l.self.span ≡ l.span;
  nothing : (j : ℕ) → j < l.i → noted l.self j ≡ 0;
}
