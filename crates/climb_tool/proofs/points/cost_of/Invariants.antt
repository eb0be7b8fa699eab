-- The sum so far, and that it is small.
use Rattle.std.proofs.Common.{take, ◌≡◌, ◌≤◌, ◌*◌}
use Rattle.std.specs.Prelude.{nat_abs}
use Rattle.int_vector.specs.Vectors.{dot, norm}
use Rattle.climb_tool.proofs.points.cost_of.Given as goal

abbrev pub invariant-loop-i : goal.invariant-loop-i
invariant-loop-i l = record {
  sum : l.sum ≡ dot (take l.i l.cost) (take l.i l.vector);
  small : nat_abs l.sum ≤ 72057594037927936 * norm (take l.i l.vector);
}
