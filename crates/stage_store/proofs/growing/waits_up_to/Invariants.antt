use Rattle.std.proofs.Common.{◌≡◌, ℕ, ◌<◌, ◌≤◌, get_or, []}
use Rattle.lift_core.specs.Stages.{stage_norm}
use Rattle.stage_store.proofs.growing.waits_up_to.Given as goal

abbrev pub invariant-loop-i : goal.invariant-loop-i
invariant-loop-i l = (k : ℕ) → l.from ≤ k → k < l.i → stage_norm (get_or l.waiting.rows k []) ≡ l.least
