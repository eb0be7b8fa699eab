use Rattle.standing_pool.proofs.running.with_team.Goals as goal

pub returns : goal.returns
returns g c = let h = c.scoped.ensures in record { end = h.1.0; system = h.1.1.0; rows = h.1.1.1.0; walk = h.1.1.1.1.0; sure = h.1.1.1.1.1 }
