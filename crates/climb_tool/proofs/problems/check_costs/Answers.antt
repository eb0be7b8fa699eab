use Rattle.std.proofs.Common.{sym, ◌∙◌}
use Rattle.climb_tool.proofs.Columns.{none_large}
use Rattle.climb_tool.proofs.problems.check_costs.Goals as goal

pub returns-in-None-clause-stands : goal.returns-in-None-clause-stands
returns-in-None-clause-stands c = none_large 1 c.args.cost.now (sym c.first_large.ensures ∙ c.in-None.is)
