use Rattle.std.proofs.Common.{rules}
use Rattle.outside.proofs.sure.SureFolderFolder.append.Goals as goal

pub returns-clause-done : goal.returns-clause-done
returns-clause-done c = search rules
