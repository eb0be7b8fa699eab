-- The entries so far are the signs so far.
use Rattle.std.proofs.Common.{◌≡◌, take}
use Rattle.system_shape.proofs.columns.file_signs.Given as goal

abbrev pub invariant-loop-entry : goal.invariant-loop-entry
invariant-loop-entry l = l.signs.items ≡ take l.entry-index l.entries
