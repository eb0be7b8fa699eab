use Rattle.std.proofs.Common.{rules}
use Rattle.int_vector.proofs.lex.Goals as goal

pub returns : goal.returns
returns c = search rules
