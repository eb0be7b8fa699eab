use Rattle.std.proofs.Common.{◌≡◌, [], List, ℕ, replicate}
use Rattle.lift_core.proofs.machine.Core.start.Given as goal

abbrev pub invariant-loop-pass : goal.invariant-loop-pass
invariant-loop-pass l = ◌≡◌ {A = List (List ℕ)} l.held.items (replicate l._pass [])
