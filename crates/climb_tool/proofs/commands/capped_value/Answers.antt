use Rattle.std.proofs.Common.{arith}
use Rattle.std.proofs.lemmas.Grind.{common_steps}
use Rattle.climb_tool.proofs.commands.capped_value.Goals as goal

pub returns : goal.returns
returns c = grind (arith, common_steps)
