use Rattle.std.proofs.Common.{rules}
use Rattle.circuit_tool.proofs.top.conclude.Goals as goal

pub write_rows-requires-clause-kernel : goal.write_rows-requires-clause-kernel
write_rows-requires-clause-kernel c = search rules
