use Rattle.std.proofs.Common.{rules}
use Rattle.tool_words.proofs.reading.stands_apart.Goals as goal

pub returns-in-None-backup : goal.returns-in-None-backup
returns-in-None-backup c = search rules
