use Rattle.std.proofs.Common.{rules}
use Rattle.circuit_tool.proofs.supports.is_within.Goals as goal

pub returns : goal.returns
returns c = search rules
