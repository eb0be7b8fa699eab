-- The parts of a norm: its pairs shared out by the place of their first row.
use Rattle.std.specs.Prelude.{◌≡◌, ◌↔◌, ℕ, ◌+◌, ◌%◌, ◌<◌, List, [], ℤ, length, slice_index_or}
use Rattle.int_vector.specs.Operations.{add}
use Rattle.lift_core.specs.Systems.{LinearSystem}
use Rattle.lift_core.specs.Stages.{IsPair, stage_norm, norm_cmp}
use Rattle.lift_core.specs.PairSums.{HasSum, IsIrreducible, IsNewSum}
use Rattle.lift_core.specs.Lists.{IsListOf}

-- z is an irreducible sum of a pair of norm e whose first row's place in the list leaves the rest i when divided by w
pub record IsPartSum (S : LinearSystem) (listed : List (List ℤ)) (e i w : ℕ) (z : List ℤ)
    : Type 0 where
  pub place : ℕ
  pub inside : place < length listed
  pub rest : place % w ≡ i
  pub second : List ℤ
  pub pair : IsPair listed (slice_index_or listed place []) second
  pub norms : stage_norm (slice_index_or listed place []) + stage_norm second ≡ e
  pub sum : HasSum S (slice_index_or listed place []) second
  pub is : z ≡ add (slice_index_or listed place []) second
  pub irreducible : IsIrreducible listed z

-- the ascending list of part i of w of norm e
abbrev pub IsPartList : LinearSystem → List (List ℤ) → ℕ → ℕ → ℕ → List (List ℤ) → Type 0
IsPartList S listed e i w rows = IsListOf norm_cmp (IsPartSum S listed e i w) rows

-- z is in one of the parts below w
abbrev pub IsInSomePart : LinearSystem → List (List ℤ) → ℕ → ℕ → List ℤ → Type 0
IsInSomePart S listed e w z = (i : ℕ) × (i < w) × IsPartSum S listed e i w z

-- the parts of a norm together hold exactly its irreducible sums
abbrev pub PartsAreAll : Type 0
PartsAreAll =
    (S : LinearSystem) (listed : List (List ℤ)) (e w : ℕ)
    → 0 < w
    → (z : List ℤ)
    → IsNewSum S listed e z ↔ IsInSomePart S listed e w z
