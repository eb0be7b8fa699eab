use Rattle.std.proofs.Common.{drop}
use Rattle.std.specs.Prelude.{◌↔◌}
use Rattle.std.specs.List.{AllZip}
use Rattle.lift_core.specs.Columns.{HasSign}
use Rattle.lift_core.proofs.system.has_signs.Given as goal

-- what is left decides
abbrev pub invariant-loop-i : goal.invariant-loop-i
invariant-loop-i l = AllZip HasSign l.signs l.v ↔ AllZip HasSign (drop l.i l.signs) (drop l.i l.v)
