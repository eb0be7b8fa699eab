use Rattle.std.proofs.Common.{rules}
use Rattle.int_vector.proofs.plus.Goals as goal

pub returns : goal.returns
returns c = search rules
