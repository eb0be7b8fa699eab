use Rattle.reduce_tree.proofs.Signatures.{signature_part}
use Rattle.reduce_tree.proofs.laws.signature_law.Goals as goal

pub returns : goal.returns
returns c = λ levels u v below. signature_part levels 0 u v below
