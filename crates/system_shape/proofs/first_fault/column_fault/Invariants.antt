-- What is left decides.
use Rattle.std.proofs.Common.{◌≡◌, ◌+◌, take, drop}
use Rattle.std.specs.Prelude.{All}
use Rattle.lift_core.specs.ToolSystems.{IsSign}
use Rattle.system_shape.specs.Shape.{column_fault}
use Rattle.system_shape.proofs.first_fault.column_fault.Given as goal

abbrev pub invariant-loop-place : goal.invariant-loop-place
invariant-loop-place l = record { left : column_fault 1 l.signs ≡ column_fault (l.place + 1) (drop l.place l.signs); known : All IsSign (take l.place l.signs) }
