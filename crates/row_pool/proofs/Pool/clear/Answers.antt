use Rattle.std.proofs.Common.{rules}
use Rattle.row_pool.proofs.Pool.clear.Goals as goal

pub returns : goal.returns
returns c = search rules
