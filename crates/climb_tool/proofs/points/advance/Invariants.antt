-- The entries so far are moved, and the others are as they were.
use Rattle.std.proofs.Common.{◌≡◌, length, take, drop}
use Rattle.int_vector.specs.Operations.{add}
use Rattle.climb_tool.specs.Paths.{times}
use Rattle.climb_tool.specs.Inside.Turns.{vector_of}
use Rattle.climb_tool.proofs.points.advance.Given as goal

abbrev pub invariant-loop-i : goal.invariant-loop-i
invariant-loop-i l = record {
  length : length l.x ≡ length l.upper;
  moved : take l.i l.x ≡ take l.i (add l.initial.x (times l.count (vector_of l.candidate)));
  others : drop l.i l.x ≡ drop l.i l.initial.x;
}
