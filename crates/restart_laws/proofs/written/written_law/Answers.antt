use Rattle.restart_laws.proofs.WrittenText.{written_read, written_same}
use Rattle.restart_laws.proofs.written.written_law.Goals as goal

pub returns-clause-read : goal.returns-clause-read
returns-clause-read c = written_read

pub returns-clause-same : goal.returns-clause-same
returns-clause-same c = written_same
