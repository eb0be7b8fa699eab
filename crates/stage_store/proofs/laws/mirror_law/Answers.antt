use Rattle.stage_store.proofs.Negatives.{sums_of_negatives, negatives_make_none}
use Rattle.stage_store.proofs.laws.mirror_law.Goals as goal

pub returns-clause-sums : goal.returns-clause-sums
returns-clause-sums c = sums_of_negatives

pub returns-clause-none : goal.returns-clause-none
returns-clause-none c = negatives_make_none
