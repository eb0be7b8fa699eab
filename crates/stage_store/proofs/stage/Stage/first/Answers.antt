-- The minimal solutions of no rows are what the first stage starts with; they are the defined ones, so its lists are.
use Rattle.std.proofs.Common.{sym, subst}
use Rattle.stage_store.specs.Lifted.{IsLiftedDefined}
use Rattle.stage_store.proofs.UnitVectors.{solution_solves, solution_positive, solution_small}
use Rattle.stage_store.proofs.Starting.{first_defined, first_stays}
use Rattle.stage_store.proofs.stage.Stage.first.Goals as goal

pub start-requires-clause-solutions : goal.start-requires-clause-solutions
start-requires-clause-solutions c = solution_solves c.args.system.equations c.in_ok-solutions.solutions.rows c.in_ok-solutions.ensures.solutions

pub start-requires-clause-positive : goal.start-requires-clause-positive
start-requires-clause-positive c = solution_positive c.args.system.equations c.in_ok-solutions.solutions.rows c.in_ok-solutions.ensures.solutions

pub start-requires-clause-small : goal.start-requires-clause-small
start-requires-clause-small c = solution_small c.args.system.equations c.in_ok-solutions.solutions.rows c.in_ok-solutions.ensures.solutions

pub vouched-requires : goal.vouched-requires
vouched-requires c = λ t. first_defined c.args.system c.in-Ok.lifted (record { solutions = c.in_ok-solutions.solutions.rows; minimal = c.in_ok-solutions.ensures.solutions; starts = c.in-Ok.ensures })

pub returns-in-Ok-clause-defined : goal.returns-in-Ok-clause-defined
returns-in-Ok-clause-defined c =
    subst IsLiftedDefined (sym c.vouched.ensures)
    (first_defined c.args.system c.in-Ok.lifted (record { solutions = c.in_ok-solutions.solutions.rows; minimal = c.in_ok-solutions.ensures.solutions; starts = c.in-Ok.ensures }))

pub unreachable-requires : goal.unreachable-requires
unreachable-requires c = first_stays c.args.system c.in_ok-solutions.solutions.rows c.start.result c.in-Err-Overflow.field-0 c.in-Err-Overflow.field-0-0 c.in-Err-Overflow.field-0-1 c.keeps.ensures c.in_ok-solutions.ensures.solutions c.start.ensures c.in-Err-Overflow.is c.in-Err-Overflow.field-0-is
