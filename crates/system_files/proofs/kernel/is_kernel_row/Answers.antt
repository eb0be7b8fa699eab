use Rattle.std.proofs.Common.{rules}
use Rattle.system_files.proofs.kernel.is_kernel_row.Goals as goal

pub dot-requires-clause-small : goal.dot-requires-clause-small
dot-requires-clause-small c = search rules
