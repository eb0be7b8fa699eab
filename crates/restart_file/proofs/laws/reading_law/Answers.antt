use Rattle.restart_file.proofs.OneReading.{one_reading}
use Rattle.restart_file.proofs.laws.reading_law.Goals as goal

pub returns : goal.returns
returns c = one_reading
