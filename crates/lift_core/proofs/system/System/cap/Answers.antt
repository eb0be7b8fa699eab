use Rattle.std.proofs.Common.{arith}
use Rattle.std.proofs.lemmas.Grind.{common_steps}
use Rattle.lift_core.proofs.system.System.cap.Goals as goal

pub returns : goal.returns
returns c = grind (arith, common_steps)
