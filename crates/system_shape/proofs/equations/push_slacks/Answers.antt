use Rattle.std.proofs.Common.{arith}
use Rattle.std.proofs.lemmas.Grind.{common_steps}
use Rattle.system_shape.proofs.equations.push_slacks.Goals as goal

pub returns : goal.returns
returns c = grind (arith, common_steps)
