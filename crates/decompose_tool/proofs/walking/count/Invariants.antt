-- The entries so far bound the count.
use Rattle.std.proofs.Common.{◌≤◌}
use Rattle.int_vector.specs.Vectors.{largest}
use Rattle.decompose_tool.proofs.Counting.{Bounds}
use Rattle.decompose_tool.proofs.walking.count.Given as goal

abbrev pub invariant-loop-j : goal.invariant-loop-j
invariant-loop-j l = record { bounds : Bounds l.u l.rest l.j l.most; small : l.most ≤ largest }
