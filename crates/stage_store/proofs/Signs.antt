-- The sign of a last entry, as the code reads it.
use Rattle.lift_core.proofs.Stages.{last-get_or, front-take}

pub ruleset sign_laws = (last-get_or)

pub ruleset front_laws = (front-take)
