use Rattle.std.proofs.Common.{rules}
use Rattle.lift_core.proofs.system.is_capped.Goals as goal

pub returns-in-Some : goal.returns-in-Some
returns-in-Some c = search rules
