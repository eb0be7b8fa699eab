-- The entries so far are negated.
use Rattle.int_vector.specs.Vectors.{negated}
use Rattle.decompose_tool.proofs.InPlace.{IsReplaced}
use Rattle.decompose_tool.proofs.walking.negate.Given as goal

abbrev pub invariant-loop-j : goal.invariant-loop-j
invariant-loop-j l = IsReplaced l.initial.v (negated l.initial.v) l.j l.v
