use Rattle.lift_run.proofs.Closings.{passes, stay_defined}
use Rattle.lift_run.proofs.laws.places_law.Goals as goal

pub returns-clause-places : goal.returns-clause-places
returns-clause-places c = λ limits s final closed end stage defined leads ends. passes limits end leads stage.number_from stage.number_to defined ends

pub returns-clause-defined : goal.returns-clause-defined
returns-clause-defined c = λ limits s final closed stage defined leads. stay_defined limits leads stage.number_from stage.number_to defined
