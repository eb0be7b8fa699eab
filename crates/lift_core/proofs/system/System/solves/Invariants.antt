use Rattle.std.proofs.Common.{◌≡◌, take}
use Rattle.std.specs.Prelude.{pos}
use Rattle.std.specs.List.{AllByRecursion}
use Rattle.int_vector.specs.Vectors.{dot}
use Rattle.lift_core.proofs.system.System.solves.Given as goal

-- the rows so far give 0
abbrev pub invariant-loop-i : goal.invariant-loop-i
invariant-loop-i l = AllByRecursion (λ r. dot r l.v ≡ pos 0) (take l.i l.self.equations.rows)
