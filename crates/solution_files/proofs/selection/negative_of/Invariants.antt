use Rattle.std.proofs.Common.{◌≡◌, ◌++◌, drop}
use Rattle.int_vector.specs.Vectors.{negated}
use Rattle.solution_files.proofs.selection.negative_of.Given as goal

abbrev pub invariant-loop-entry : goal.invariant-loop-entry
invariant-loop-entry l = l.negative.items ++ negated (drop l.entry-index l.row) ≡ negated l.row
