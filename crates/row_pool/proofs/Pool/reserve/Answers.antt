use Rattle.std.proofs.Common.{rules}
use Rattle.row_pool.proofs.Pool.reserve.Goals as goal

pub returns-then-rows-self-clause-ok : goal.returns-then-rows-self-clause-ok
returns-then-rows-self-clause-ok c = search rules
