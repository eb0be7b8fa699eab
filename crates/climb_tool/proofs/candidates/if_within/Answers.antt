use Rattle.std.proofs.Common.{rules}
use Rattle.climb_tool.proofs.candidates.if_within.Goals as goal

pub returns-else-stays_within : goal.returns-else-stays_within
returns-else-stays_within c = search rules
