use Rattle.std.proofs.Common.{rules}
use Rattle.system_shape.proofs.equations.relations.Goals as goal

pub returns-in-None : goal.returns-in-None
returns-in-None c = search rules
