use Rattle.std.proofs.Common.{rules}
use Rattle.tool_words.proofs.reading.job.Goals as goal

pub returns-in_err-backup-clause-reads : goal.returns-in_err-backup-clause-reads
returns-in_err-backup-clause-reads c = search rules
