use Rattle.climb_tool.proofs.Optimal.{cost_falls, stuck_is_optimal}
use Rattle.climb_tool.proofs.laws.step_law.Goals as goal

pub returns-clause-falls : goal.returns-clause-falls
returns-clause-falls c = cost_falls

pub returns-clause-optimal : goal.returns-clause-optimal
returns-clause-optimal c = stuck_is_optimal
