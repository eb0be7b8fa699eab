use Rattle.std.proofs.Common.{rules}
use Rattle.system_shape.proofs.columns.has_x0.Goals as goal

pub returns-in_default : goal.returns-in_default
returns-in_default c = search rules
