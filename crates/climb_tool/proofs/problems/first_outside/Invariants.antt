-- The columns so far are within the bounds.
use Rattle.std.proofs.Common.{◌≡◌, ◌+◌, drop}
use Rattle.climb_tool.specs.Problems.{outside_bounds, first_from, first_true}
use Rattle.climb_tool.proofs.problems.first_outside.Given as goal

abbrev pub invariant-loop-i : goal.invariant-loop-i
invariant-loop-i l = first_from (l.i + 1) (outside_bounds (drop l.i l.upper) (drop l.i l.point)) ≡ first_true (outside_bounds l.upper l.point)
