use Rattle.standing_pool.proofs.Parts.{parts_are_all}
use Rattle.standing_pool.proofs.laws.parts_law.Goals as goal

pub returns : goal.returns
returns c = parts_are_all
