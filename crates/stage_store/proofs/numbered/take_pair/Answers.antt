use Rattle.stage_store.proofs.Halves.{all_enough}
use Rattle.stage_store.proofs.numbered.take_pair.Goals as goal

pub take_places-requires-clause-enough : goal.take_places-requires-clause-enough
take_places-requires-clause-enough c = all_enough c.args.stage.now c.args.norm c.len.result c.len.ensures
