use Rattle.std.proofs.Common.{rules}
use Rattle.system_shape.proofs.columns.user_caps.Goals as goal

pub returns-in-Some : goal.returns-in-Some
returns-in-Some c = search rules
