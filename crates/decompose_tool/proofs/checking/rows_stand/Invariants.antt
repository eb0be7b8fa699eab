-- What is left decides.
use Rattle.std.proofs.Common.{drop}
use Rattle.std.specs.Prelude.{◌↔◌}
use Rattle.decompose_tool.specs.Inside.Steps.{user_of, RowsStand}
use Rattle.decompose_tool.proofs.checking.rows_stand.Given as goal

abbrev pub invariant-loop-i : goal.invariant-loop-i
invariant-loop-i l = RowsStand (user_of l.shaped).rows l.times l.x ↔ RowsStand (drop l.i (user_of l.shaped).rows) l.times l.x
