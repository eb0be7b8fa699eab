use Rattle.std.proofs.Common.{rules}
use Rattle.int_vector.proofs.is_within.Goals as goal

pub returns-then-x-gt0 : goal.returns-then-x-gt0
returns-then-x-gt0 c = search rules
