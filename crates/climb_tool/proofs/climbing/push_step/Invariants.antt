-- The cells so far, and those that are left.
use Rattle.std.proofs.Common.{◌≡◌, ◌++◌, ◌∷◌, drop}
use Rattle.std.specs.Prelude.{pos}
use Rattle.climb_tool.specs.Inside.Turns.{turned, vector_of}
use Rattle.climb_tool.proofs.climbing.push_step.Given as goal

abbrev pub invariant-loop-entry : goal.invariant-loop-entry
invariant-loop-entry l =
    l.cells.items ++ turned l.candidate.negative (drop l.entry-index l.candidate.vector.now) ≡ l.fn.cells.items ++ (pos l.count ∷ vector_of l.candidate)
