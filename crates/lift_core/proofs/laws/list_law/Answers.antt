-- Each clause is a lemma of `Unique`.
use Rattle.lift_core.proofs.Unique.{one_listed, one_waiting, one_stage_list, one_solution_list, one_grown, one_used, next_same}
use Rattle.lift_core.proofs.laws.list_law.Goals as goal

pub returns-clause-listed : goal.returns-clause-listed
returns-clause-listed c = one_listed

pub returns-clause-waiting : goal.returns-clause-waiting
returns-clause-waiting c = one_waiting

pub returns-clause-stage : goal.returns-clause-stage
returns-clause-stage c = one_stage_list

pub returns-clause-solutions : goal.returns-clause-solutions
returns-clause-solutions c = one_solution_list

pub returns-clause-grown : goal.returns-clause-grown
returns-clause-grown c = one_grown

pub returns-clause-used : goal.returns-clause-used
returns-clause-used c = one_used

pub returns-clause-next : goal.returns-clause-next
returns-clause-next c = next_same
