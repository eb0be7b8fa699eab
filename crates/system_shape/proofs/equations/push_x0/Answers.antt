use Rattle.std.proofs.Common.{rules}
use Rattle.system_shape.proofs.equations.push_x0.Goals as goal

pub returns-in_ok-push : goal.returns-in_ok-push
returns-in_ok-push c = search rules
