use Rattle.std.proofs.Common.{rules}
use Rattle.outside.proofs.reading.read_all.Goals as goal

pub returns-clause-found : goal.returns-clause-found
returns-clause-found g c = search rules
