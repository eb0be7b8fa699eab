use Rattle.std.proofs.Common.{arith}
use Rattle.lift_run.proofs.Counting.{bounded}
use Rattle.lift_run.proofs.laws.length_law.Goals as goal

pub returns : goal.returns
returns c = λ S limits k d used listed waiting end walk. omega (arith, bounded S limits walk)
