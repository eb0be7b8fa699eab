-- A sign 1 for each slack column so far.
use Rattle.std.proofs.Common.{◌≡◌, ◌++◌, pos, replicate}
use Rattle.system_shape.proofs.columns.column_signs.Given as goal

abbrev pub invariant-loop-slack : goal.invariant-loop-slack
invariant-loop-slack l = l.signs.items ≡ l.initial.signs.items ++ replicate l._slack (pos 1)
