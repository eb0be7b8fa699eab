-- The columns so far have no fault.
use Rattle.std.proofs.Common.{◌≡◌, ◌+◌, drop}
use Rattle.std.specs.Prelude.{map}
use Rattle.climb_tool.specs.Problems.{is_large, first_from, first_true}
use Rattle.climb_tool.proofs.problems.first_large.Given as goal

abbrev pub invariant-loop-i : goal.invariant-loop-i
invariant-loop-i l = first_from (l.i + 1) (map is_large (drop l.i l.cost)) ≡ first_true (map is_large l.cost)
