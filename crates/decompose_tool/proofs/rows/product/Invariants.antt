-- The sum so far, and that it is small.
use Rattle.std.proofs.Common.{take, ◌≡◌, ◌≤◌, ◌*◌}
use Rattle.std.specs.Prelude.{nat_abs}
use Rattle.int_vector.specs.Vectors.{dot, norm}
use Rattle.decompose_tool.proofs.rows.product.Given as goal

abbrev pub invariant-loop-i : goal.invariant-loop-i
invariant-loop-i l = record {
  sum : l.sum ≡ dot (take l.i l.a) (take l.i l.x);
  small : nat_abs l.sum ≤ 9223372036854775808 * norm (take l.i l.x);
}
