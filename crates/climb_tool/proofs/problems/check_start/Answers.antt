use Rattle.std.proofs.Common.{sym, ◌∙◌}
use Rattle.climb_tool.proofs.Columns.{none_outside}
use Rattle.climb_tool.proofs.problems.check_start.Goals as goal

pub returns-in-None-clause-stands : goal.returns-in-None-clause-stands
returns-in-None-clause-stands c = none_outside 1 c.args.upper.now c.args.start.now c.requires.lengths (sym c.first_outside.ensures ∙ c.in-None.is)
