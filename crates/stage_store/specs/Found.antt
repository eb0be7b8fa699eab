-- The sums of pairs that are found on the way through the pairs of a norm.
use Rattle.std.specs.Prelude.{◌≡◌, List, ℤ}
use Rattle.int_vector.specs.Operations.{add}
use Rattle.lift_core.specs.Systems.{LinearSystem}
use Rattle.lift_core.specs.PairSums.{HasSum, IsIrreducible}

-- z is the irreducible sum of f and g
pub record IsSumOf (S : LinearSystem) (listed : List (List ℤ)) (f g z : List ℤ) : Type 0 where
  pub sum : HasSum S f g
  pub is : z ≡ add f g
  pub irreducible : IsIrreducible listed z
