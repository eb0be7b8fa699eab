use Rattle.std.proofs.Common.{rules}
use Rattle.stage_store.proofs.sieve.Sieve.turn_rows.Goals as goal

pub returns-clause-turned : goal.returns-clause-turned
returns-clause-turned c = search rules
