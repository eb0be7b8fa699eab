use Rattle.std.proofs.Common.{arith}
use Rattle.row_pool.proofs.Rows.{row_laws}
use Rattle.row_pool.proofs.Pool.push.Goals as goal

pub returns-clause-rows : goal.returns-clause-rows
returns-clause-rows c = grind (arith, row_laws)
