-- So many zeros so far.
use Rattle.std.proofs.Common.{◌≡◌, ◌++◌, pos, replicate}
use Rattle.system_shape.proofs.equations.push_zeros.Given as goal

abbrev pub invariant-loop-zero : goal.invariant-loop-zero
invariant-loop-zero l = l.cells.items ≡ l.initial.cells.items ++ replicate l._zero (pos 0)
