use Rattle.std.proofs.Common.{rules}
use Rattle.outside.proofs.machine.counted.Goals as goal

pub returns-clause-failed : goal.returns-clause-failed
returns-clause-failed c = search rules
