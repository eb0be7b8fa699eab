-- What is left decides.
use Rattle.std.proofs.Common.{take, drop, length}
use Rattle.std.specs.Prelude.{◌↔◌}
use Rattle.std.specs.List.{AllZip}
use Rattle.lift_core.specs.Columns.{HasSign, IsCapped}
use Rattle.decompose_tool.proofs.checking.obeys.Given as goal

abbrev pub invariant-loop-j : goal.invariant-loop-j
invariant-loop-j l =
    (AllZip HasSign (take (length l.x) l.system.equations.signs) l.x × AllZip IsCapped (take (length l.x) l.system.equations.caps) l.x)
    ↔ (AllZip HasSign (drop l.j (take (length l.x) l.system.equations.signs)) (drop l.j l.x) × AllZip IsCapped (drop l.j (take (length l.x) l.system.equations.caps)) (drop l.j l.x))
