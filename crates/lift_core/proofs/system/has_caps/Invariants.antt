use Rattle.std.proofs.Common.{drop}
use Rattle.std.specs.Prelude.{◌↔◌}
use Rattle.std.specs.List.{AllZip}
use Rattle.lift_core.specs.Columns.{IsCapped}
use Rattle.lift_core.proofs.system.has_caps.Given as goal

-- what is left decides
abbrev pub invariant-loop-i : goal.invariant-loop-i
invariant-loop-i l = AllZip IsCapped l.caps l.v ↔ AllZip IsCapped (drop l.i l.caps) (drop l.i l.v)
