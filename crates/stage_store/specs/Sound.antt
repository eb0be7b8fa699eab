-- What is true of the rows of a finish, whatever the lists of its stage were.
use Rattle.std.specs.Prelude.{◌<◌, length}
use Rattle.std.specs.List.{AllByRecursion}
use Rattle.int_vector.specs.Vectors.{norm}
use Rattle.lift_core.specs.Systems.{Solves}
use Rattle.stage_store.specs.declared.stage.Finish.{Finish}
use Rattle.stage_store.specs.declared.stage.Lifted.{Lifted}
use Rattle.stage_store.specs.declared.stage.Lifted.TheVariants.{Next, Last}

-- each row is a solution of all equations, and not zero
pub record HasSolutions (f : Finish) : Type 0 where
  pub solve :
      AllByRecursion (Solves f.system.equations (length f.system.equations.rows)) f.rows.rows
  pub nonzero : AllByRecursion (λ v. 0 < norm v) f.rows.rows

-- a finish has solutions; of a stage nothing is said
abbrev pub IsSound : Lifted → Type 0
IsSound (Next s) = Unit {0}
IsSound (Last f) = HasSolutions f
