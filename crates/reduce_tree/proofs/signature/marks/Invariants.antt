use Rattle.std.proofs.Common.{◌≡◌, ◌+◌, drop}
use Rattle.std.specs.Prelude.{bit_or}
use Rattle.reduce_tree.specs.Signatures.{marks_of}
use Rattle.reduce_tree.proofs.signature.marks.Given as goal

abbrev pub invariant-loop-level : goal.invariant-loop-level
invariant-loop-level l = marks_of l.first l.thresholds l.size ≡ bit_or l.marks (marks_of (l.first + l.level) (drop l.level l.thresholds) l.size)
