use Rattle.std.proofs.Common.{arith}
use Rattle.row_pool.proofs.Rows.{row_laws}
use Rattle.row_pool.proofs.Pool.row.Goals as goal

pub returns-clause-row : goal.returns-clause-row
returns-clause-row c = grind (arith, row_laws)
