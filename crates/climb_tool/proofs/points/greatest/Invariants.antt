-- So many times at most, and what is left, decide.
use Rattle.std.proofs.Common.{drop, ℕ, ◌≤◌}
use Rattle.std.specs.Prelude.{◌↔◌}
use Rattle.int_vector.specs.Operations.{add}
use Rattle.climb_tool.specs.Paths.{IsWithinBounds, times}
use Rattle.climb_tool.specs.Inside.Turns.{vector_of}
use Rattle.climb_tool.proofs.points.greatest.Given as goal

abbrev pub invariant-loop-i : goal.invariant-loop-i
invariant-loop-i l = record {
  most : l.most ≤ 9223372036854775807;
  decides : (d : ℕ) → d ≤ 9223372036854775807
      → IsWithinBounds l.upper (add l.x (times d (vector_of l.candidate)))
      ↔ ((d ≤ l.most) × IsWithinBounds (drop l.i l.upper) (add (drop l.i l.x) (drop l.i (times d (vector_of l.candidate)))));
}
