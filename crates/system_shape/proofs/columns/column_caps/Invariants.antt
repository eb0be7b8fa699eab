-- No cap for each slack column so far.
use Rattle.std.proofs.Common.{◌≡◌, ◌++◌, replicate, None}
use Rattle.system_shape.proofs.columns.column_caps.Given as goal

abbrev pub invariant-loop-slack : goal.invariant-loop-slack
invariant-loop-slack l = l.caps.items ≡ l.initial.caps.items ++ replicate l._slack None
