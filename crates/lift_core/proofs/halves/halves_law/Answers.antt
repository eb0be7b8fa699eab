-- Where a listed row is below z, one of at most half of z's measure is; and norm and size of an entry are such measures.
-- All three stand whole in `SmallHalf`.
use Rattle.lift_core.proofs.SmallHalf.{halves_decide, norms_add, sizes_add}
use Rattle.lift_core.proofs.halves.halves_law.Goals as goal

pub returns-clause-decide : goal.returns-clause-decide
returns-clause-decide c = λ S k d e listed waiting measure l w next adds z p n. halves_decide S k d e listed waiting l w next measure adds z p n

pub returns-clause-norms : goal.returns-clause-norms
returns-clause-norms c = norms_add

pub returns-clause-sizes : goal.returns-clause-sizes
returns-clause-sizes c = sizes_add
