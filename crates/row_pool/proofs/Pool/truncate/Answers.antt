use Rattle.std.proofs.Common.{arith}
use Rattle.row_pool.proofs.Rows.{cut_laws}
use Rattle.row_pool.proofs.Pool.truncate.Goals as goal

pub returns-clause-rows : goal.returns-clause-rows
returns-clause-rows c = grind (arith, cut_laws)

pub returns-clause-spare : goal.returns-clause-spare
returns-clause-spare c = grind (arith, cut_laws)
