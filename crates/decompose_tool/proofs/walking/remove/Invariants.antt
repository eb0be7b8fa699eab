-- The entries so far are those of the difference.
use Rattle.int_vector.specs.Operations.{subtract}
use Rattle.decompose_tool.specs.Walks.{times}
use Rattle.decompose_tool.proofs.InPlace.{IsReplaced}
use Rattle.decompose_tool.proofs.walking.remove.Given as goal

abbrev pub invariant-loop-j : goal.invariant-loop-j
invariant-loop-j l = IsReplaced l.initial.rest (subtract l.initial.rest (times l.c l.u)) l.j l.rest
