use Rattle.std.proofs.Common.{◌≤◌, length}
use Rattle.stage_store.proofs.class.place_below.Given as goal

abbrev pub invariant-loop-place : goal.invariant-loop-place
invariant-loop-place l = l.place ≤ length l.classes

abbrev pub decreases-loop-place : goal.decreases-loop-place
decreases-loop-place l = l.place
