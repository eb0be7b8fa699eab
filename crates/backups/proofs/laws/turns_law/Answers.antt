use Rattle.backups.proofs.Backing.{go_in_turn}
use Rattle.backups.proofs.laws.turns_law.Goals as goal

pub returns : goal.returns
returns c = go_in_turn
