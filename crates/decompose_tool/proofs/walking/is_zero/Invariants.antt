-- What is left decides.
use Rattle.std.proofs.Common.{◌≡◌, drop}
use Rattle.decompose_tool.specs.Rows.{is_zero}
use Rattle.decompose_tool.proofs.walking.is_zero.Given as goal

abbrev pub invariant-loop-x : goal.invariant-loop-x
invariant-loop-x l = is_zero l.v ≡ is_zero (drop l.x-index l.v)
