use Rattle.backups.proofs.Whole.{one_stands}
use Rattle.backups.proofs.laws.whole_law.Goals as goal

pub returns : goal.returns
returns c = one_stands
