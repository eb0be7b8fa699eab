use Rattle.stage_store.proofs.Opening.{not_found}
use Rattle.stage_store.proofs.opened.place_of.Goals as goal

pub returns-in-Err : goal.returns-in-Err
returns-in-Err c = not_found c.args.ids.now c.args.id _ c.binary_search.result c.in-Err.is c.binary_search.ensures.position c.requires
