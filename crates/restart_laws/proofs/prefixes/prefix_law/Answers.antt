use Rattle.restart_laws.proofs.PrefixReadings.{no_proper_prefix}
use Rattle.restart_laws.proofs.prefixes.prefix_law.Goals as goal

pub returns : goal.returns
returns c = no_proper_prefix
