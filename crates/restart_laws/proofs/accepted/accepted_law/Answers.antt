use Rattle.restart_laws.proofs.AcceptedTexts.{text_of_what_it_says}
use Rattle.restart_laws.proofs.accepted.accepted_law.Goals as goal

pub returns : goal.returns
returns c = text_of_what_it_says
