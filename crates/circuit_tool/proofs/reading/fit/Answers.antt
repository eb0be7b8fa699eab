use Rattle.std.proofs.Common.{rules}
use Rattle.circuit_tool.proofs.reading.fit.Goals as goal

pub returns-then-set-mat-clause-sets : goal.returns-then-set-mat-clause-sets
returns-then-set-mat-clause-sets c = search rules
