-- The sums of the pairs of a norm.
use Rattle.std.specs.Prelude.{◌≡◌, ℕ, ◌+◌, List, ℤ}
use Rattle.std.specs.List.{Contains}
use Rattle.int_vector.specs.Vectors.{◌⊑◌}
use Rattle.int_vector.specs.Operations.{add, AreConformal}
use Rattle.lift_core.specs.Systems.{LinearSystem, ObeysCaps}
use Rattle.lift_core.specs.Stages.{front, stage_norm, IsPair}

-- the pair's sum is taken: no signs are opposite but the last ones, and the caps are obeyed
pub record HasSum (S : LinearSystem) (f g : List ℤ) : Type 0 where
  pub conformal : AreConformal (front f) (front g)
  pub caps : ObeysCaps S (front (add f g))

-- no listed row is below z
abbrev pub IsIrreducible : List (List ℤ) → List ℤ → Type 0
IsIrreducible listed z = (u : List ℤ) → Contains listed u → u ⊑ z → ⊥

-- z is an irreducible sum of a pair of norm e
pub record IsNewSum (S : LinearSystem) (listed : List (List ℤ)) (e : ℕ) (z : List ℤ) : Type 0 where
  pub first : List ℤ
  pub second : List ℤ
  pub pair : IsPair listed first second
  pub norms : stage_norm first + stage_norm second ≡ e
  pub sum : HasSum S first second
  pub is : z ≡ add first second
  pub irreducible : IsIrreducible listed z
