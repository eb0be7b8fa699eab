use Rattle.lift_core.proofs.Units.{signed_unit_of, minimal_of_signed_unit}
use Rattle.lift_core.proofs.laws.unit_law.Goals as goal

pub returns : goal.returns
returns c = λ S even v. (signed_unit_of S v, minimal_of_signed_unit S even v)
