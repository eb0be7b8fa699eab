-- What is left decides.
use Rattle.std.proofs.Common.{drop}
use Rattle.std.specs.Prelude.{◌↔◌}
use Rattle.int_vector.specs.Operations.{add}
use Rattle.climb_tool.specs.Paths.{IsWithinBounds}
use Rattle.climb_tool.specs.Inside.Turns.{vector_of}
use Rattle.climb_tool.proofs.points.stays_within.Given as goal

abbrev pub invariant-loop-i : goal.invariant-loop-i
invariant-loop-i l =
    IsWithinBounds l.upper (add l.x (vector_of l.candidate)) ↔ IsWithinBounds (drop l.i l.upper) (add (drop l.i l.x) (drop l.i (vector_of l.candidate)))
