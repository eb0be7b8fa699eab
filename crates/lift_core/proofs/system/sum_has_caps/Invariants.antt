-- The places of the caps are gone through one after another.
use Rattle.std.proofs.Common.{drop}
use Rattle.std.specs.Prelude.{◌↔◌}
use Rattle.std.specs.List.{AllZip, AllByRecursion}
use Rattle.int_vector.specs.Operations.{add}
use Rattle.lift_core.specs.Columns.{IsCapped}
use Rattle.lift_core.proofs.Caps.{IsSumCapped}
use Rattle.lift_core.proofs.system.sum_has_caps.Given as goal

-- the places that are left decide
abbrev pub invariant-loop-place : goal.invariant-loop-place
invariant-loop-place l = AllZip IsCapped l.caps (add l.u l.v) ↔ AllByRecursion (IsSumCapped l.caps l.u l.v) (drop l.place-index l.places)
