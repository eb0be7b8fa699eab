use Rattle.std.proofs.Common.{◌≡◌, ◌++◌, length}
use Rattle.std.specs.Prelude.{map, decimal}
use Rattle.restart_file.specs.Texts.{spaced}
use Rattle.restart_file.proofs.lines.push_spaced.Given as goal

abbrev pub invariant-loop-rest : goal.invariant-loop-rest
invariant-loop-rest l = l.line.items ++ spaced (map decimal l.rest) ≡ l.fn.line.items ++ spaced (map decimal l.counts)

abbrev pub decreases-loop-rest : goal.decreases-loop-rest
decreases-loop-rest l = length l.rest
