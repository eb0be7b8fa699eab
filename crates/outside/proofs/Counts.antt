-- What a call of a folder or a sink that never fails says of one that does.
use Rattle.std.proofs.Common.{◌≤◌, ℕ, Result, arith}
use Rattle.outside.specs.Causes.{HasCause}
use Rattle.outside.specs.declared.ends.PutEnd.{PutEnd}

-- a call that never fails has its cause at any counts
pub sure_cause : {T : Type 0} (result : Result T PutEnd) (before now : ℕ) → HasCause 0 0 result → before ≤ now → HasCause before now result
sure_cause result before now sure later = record {
  later = later;
  failed = λ e. absurd (omega (arith, sure.failed e));
}
