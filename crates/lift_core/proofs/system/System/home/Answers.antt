use Rattle.std.proofs.Common.{arith}
use Rattle.lift_core.proofs.Stages.{row_parts}
use Rattle.lift_core.proofs.system.System.home.Goals as goal

pub returns-in-Zsolve : goal.returns-in-Zsolve
returns-in-Zsolve c = grind (arith, row_parts)
