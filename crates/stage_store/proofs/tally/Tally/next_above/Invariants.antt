use Rattle.std.proofs.Common.{◌≡◌, ◌≤◌, ◌<◌, ℕ}
use Rattle.stage_store.specs.Tallies.{noted}
use Rattle.stage_store.proofs.tally.Tally.next_above.Given as goal

abbrev pub invariant-loop-i : goal.invariant-loop-i
invariant-loop-i l = (j : ℕ) → l.from ≤ j → j < l.i → noted l.self j ≡ 0
