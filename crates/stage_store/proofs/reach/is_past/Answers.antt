use Rattle.std.proofs.Common.{rules}
use Rattle.stage_store.proofs.reach.is_past.Goals as goal

pub returns-then-large-small : goal.returns-then-large-small
returns-then-large-small c = search rules
