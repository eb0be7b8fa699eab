-- Files without a fault give a user's system whose rows are as long as it has columns.
use Rattle.system_shape.proofs.Building.{fitting_accepted}
use Rattle.system_shape.proofs.shaping.shape.Goals as goal

pub returns-in_ok-accepted_system-in-None-clause-well_formed : goal.returns-in_ok-accepted_system-in-None-clause-well_formed
returns-in_ok-accepted_system-in-None-clause-well_formed c = (fitting_accepted c.args.tool c.args.input.now c.in-None.ensures.fitting).well
