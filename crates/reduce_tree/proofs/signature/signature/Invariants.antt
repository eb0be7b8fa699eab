use Rattle.std.proofs.Common.{◌≡◌, drop}
use Rattle.std.specs.Prelude.{bit_or}
use Rattle.reduce_tree.specs.Signatures.{signature_from, signature_of}
use Rattle.reduce_tree.proofs.signature.signature.Given as goal

abbrev pub invariant-loop-column : goal.invariant-loop-column
invariant-loop-column l = signature_of l.levels l.row ≡ bit_or l.signature (signature_from l.levels l.column (drop l.column l.row))
