-- Each clause is a lemma of `Places` or `Walks`.
use Rattle.std.proofs.Common.{◌+◌}
use Rattle.lift_core.proofs.Places.{solutions_are, nothing_listed, solutions_wait}
use Rattle.lift_core.proofs.Walks.{first_used}
use Rattle.lift_core.proofs.laws.stage_law.Goals as goal

pub returns-clause-solutions : goal.returns-clause-solutions
returns-clause-solutions c = λ S k rows first up_to list. solutions_are S k first up_to rows list

pub returns-clause-starts : goal.returns-clause-starts
returns-clause-starts c = λ S k rows list. (nothing_listed S (k + 1), solutions_wait S k rows list)

pub returns-clause-first : goal.returns-clause-first
returns-clause-first c = first_used
