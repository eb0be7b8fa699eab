-- Each clause is a lemma of `Terms` or `Descent`.
use Rattle.lift_core.proofs.Descent.{smaller_sum}
use Rattle.lift_core.proofs.Terms.{decomposed, stage_decomposed, one_term}
use Rattle.lift_core.specs.Systems.{Solves}
use Rattle.lift_core.proofs.laws.sum_law.Goals as goal

pub returns-clause-decomposes : goal.returns-clause-decomposes
returns-clause-decomposes c = decomposed

pub returns-clause-one_term : goal.returns-clause-one_term
returns-clause-one_term c = λ S k v terms j d e. one_term (Solves S k) v terms j d e

pub returns-clause-stage : goal.returns-clause-stage
returns-clause-stage c = stage_decomposed

pub returns-clause-descends : goal.returns-clause-descends
returns-clause-descends c = smaller_sum
