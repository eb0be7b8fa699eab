use Rattle.std.proofs.Common.{rules}
use Rattle.stage_store.proofs.marks.raised_up.Goals as goal

pub returns-then-entry-le-EDGE : goal.returns-then-entry-le-EDGE
returns-then-entry-le-EDGE c = search rules
