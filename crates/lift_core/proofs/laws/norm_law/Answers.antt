-- Each clause is a lemma of `Growth` or `Lifting`.
use Rattle.std.proofs.Common.{le_of_eq, sym}
use Rattle.lift_core.specs.Stages.{last}
use Rattle.lift_core.proofs.Growth.{stage_below_same}
use Rattle.lift_core.proofs.Lifting.{opposite_sum}
use Rattle.lift_core.proofs.laws.norm_law.Goals as goal

pub returns-clause-one_norm : goal.returns-clause-one_norm
returns-clause-one_norm c = λ S k u v p q e b. stage_below_same S k u v p q b (le_of_eq (sym e))

pub returns-clause-smaller_last : goal.returns-clause-smaller_last
returns-clause-smaller_last c = λ listed f g p. opposite_sum (last f) (last g) p.above p.under
