use Rattle.std.proofs.Common.{rules}
use Rattle.lift_core.proofs.system.System.solves.Goals as goal

pub returns : goal.returns
returns c = search rules
