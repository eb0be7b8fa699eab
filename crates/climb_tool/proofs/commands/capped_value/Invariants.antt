use Rattle.std.proofs.Common.{◌≡◌, ℕ, min, drop}
use Rattle.mat_files.specs.Words.{with_digits}
use Rattle.climb_tool.proofs.commands.capped_value.Given as goal

-- some value stands for the digits so far
abbrev pub invariant-loop-digit : goal.invariant-loop-digit
invariant-loop-digit l = (n : ℕ) × ((with_digits n (drop l.digit-index l.digits) ≡ with_digits 0 l.digits) × (l.value ≡ min n 65537))
