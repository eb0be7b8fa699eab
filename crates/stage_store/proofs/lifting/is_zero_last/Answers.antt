use Rattle.std.proofs.Common.{arith}
use Rattle.stage_store.proofs.Signs.{sign_laws}
use Rattle.stage_store.proofs.lifting.is_zero_last.Goals as goal

pub returns : goal.returns
returns c = grind (arith, sign_laws)
