-- Each clause is a lemma of `Law` or `Solutions`.
use Rattle.system_shape.proofs.Law.{full_solves}
use Rattle.system_shape.proofs.Solutions.{solution_of, one_solution, one_vector, first_decide}
use Rattle.system_shape.proofs.laws.shape_law.Goals as goal

pub returns-clause-full : goal.returns-clause-full
returns-clause-full c = λ U c x well x0 h. full_solves U well c x x0 h

pub returns-clause-is : goal.returns-clause-is
returns-clause-is c = λ U v well h. let f = solution_of U well v h in (f.0.factor, f.0.solves, f.1)

pub returns-clause-one_solution : goal.returns-clause-one_solution
returns-clause-one_solution c = one_solution

pub returns-clause-one_vector : goal.returns-clause-one_vector
returns-clause-one_vector c = λ U c x v well. one_vector U well c x v

pub returns-clause-first : goal.returns-clause-first
returns-clause-first c = λ U v w well h k e f. first_decide U well v w h k e f
