-- Each clause is a lemma on walks.
use Rattle.decompose_tool.proofs.Walks.{walks_add_up, terms_are_below, terms_differ, nothing_fits, one_walk}
use Rattle.decompose_tool.proofs.laws.walk_law.Goals as goal

pub returns-clause-sum : goal.returns-clause-sum
returns-clause-sum c = walks_add_up

pub returns-clause-below : goal.returns-clause-below
returns-clause-below c = terms_are_below

pub returns-clause-differ : goal.returns-clause-differ
returns-clause-differ c = terms_differ

pub returns-clause-fits : goal.returns-clause-fits
returns-clause-fits c = nothing_fits

pub returns-clause-one : goal.returns-clause-one
returns-clause-one c = one_walk
