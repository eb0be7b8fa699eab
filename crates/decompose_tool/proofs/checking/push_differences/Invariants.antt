-- The differences so far and those that are left are all.
use Rattle.std.proofs.Common.{◌≡◌, ◌++◌, drop}
use Rattle.system_shape.specs.Problem.{differences}
use Rattle.decompose_tool.specs.Inside.Steps.{user_of}
use Rattle.decompose_tool.proofs.checking.push_differences.Given as goal

abbrev pub invariant-loop-i : goal.invariant-loop-i
invariant-loop-i l =
    l.full.items ++ differences (drop l.i (user_of l.shaped).rows) l.times l.x ≡ l.initial.full.items ++ differences (user_of l.shaped).rows l.times l.x
