use Rattle.std.proofs.Common.{rules}
use Rattle.outside.proofs.memory.MemFolderFolder.append.Goals as goal

pub returns-then-next-clause-half : goal.returns-then-next-clause-half
returns-then-next-clause-half c = search rules
