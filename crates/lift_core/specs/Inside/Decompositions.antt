-- A member of a set as a sum of minimal ones.
use Rattle.std.specs.Prelude.{◌≡◌, ℕ, List, ℤ, nat_abs, length}
use Rattle.std.specs.List.{AllByRecursion, Contains, sum_by}
use Rattle.int_vector.specs.Vectors.{◌⊑◌}
use Rattle.int_vector.specs.Operations.{AreConformal, total}
use Rattle.lift_core.specs.Systems.{IsMinimal, LinearSystem}
use Rattle.lift_core.specs.Stages.{front, last, IsStageMinimal}

-- the terms are minimal in the set, each is below v, and their sum is v
pub record IsDecomposition (P : List ℤ → Type 0) (v : List ℤ) (terms : List (List ℤ)) : Type 0 where
  pub minimal : AllByRecursion (IsMinimal P) terms
  pub below : AllByRecursion (λ u. u ⊑ v) terms
  pub sum : total (length v) terms ≡ v

-- the terms are minimal stage vectors, no two have opposite signs before the last entry, and their sum is z
pub record IsConformalSum (S : LinearSystem) (k : ℕ) (z : List ℤ)
    (terms : List (List ℤ)) : Type 0 where
  pub minimal : (u : List ℤ) → Contains terms u → IsStageMinimal S k u
  pub conformal : (u v : List ℤ) → Contains terms u → Contains terms v
      → AreConformal (front u) (front v)
  pub sum : total (length z) terms ≡ z

-- the total of the absolute values of the last entries
abbrev pub last_total : List (List ℤ) → ℕ
last_total terms = sum_by (λ u. nat_abs (last u)) terms
