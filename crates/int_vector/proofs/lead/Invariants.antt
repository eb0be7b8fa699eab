-- What is left has the same leading entry.
use Rattle.std.proofs.Common.{drop, ◌≡◌}
use Rattle.int_vector.specs.Operations.{leading_entry}
use Rattle.int_vector.proofs.lead.Given as goal

abbrev pub invariant-loop-entry : goal.invariant-loop-entry
invariant-loop-entry l = leading_entry l.v ≡ leading_entry (drop l.entry-index l.v)
