use Rattle.stage_store.proofs.Numbering.{numbered, stand_once}
use Rattle.stage_store.proofs.laws.number_law.Goals as goal

pub returns-clause-numbered : goal.returns-clause-numbered
returns-clause-numbered c = numbered

pub returns-clause-once : goal.returns-clause-once
returns-clause-once c = stand_once
