-- The law of halves: a search for a row below a vector need only look at those with at most half of a measure.
use Rattle.std.specs.Prelude.{◌≡◌, ℕ, ◌+◌, ◌*◌, ◌≤◌, ◌↔◌, List, ℤ, pos, nat_abs, slice_index_or}
use Rattle.std.specs.List.{Contains}
use Rattle.int_vector.specs.Vectors.{◌⊑◌}
use Rattle.int_vector.specs.Operations.{subtract}
use Rattle.lift_core.specs.Systems.{LinearSystem}
use Rattle.lift_core.specs.Stages.{stage_norm, IsStageVector, IsListed, IsWaiting, IsNextNorm}

-- where u is below z, the measures of u and of what is left of z add up to that of z
abbrev pub IsAdditive : (List ℤ → ℕ) → Type 0
IsAdditive measure = (u z : List ℤ) → u ⊑ z → measure u + measure (subtract z u) ≡ measure z

-- the absolute value of the entry at place j
abbrev pub size_at : ℕ → List ℤ → ℕ
size_at j z = nat_abs (slice_index_or z j (pos 0))

-- a listed row is below z
abbrev pub IsReducible : List (List ℤ) → List ℤ → Type 0
IsReducible listed z = (u : List ℤ) × Contains listed u × (u ⊑ z)

-- a listed row with at most half of z's measure is below z
abbrev pub IsReducibleByHalf : (List ℤ → ℕ) → List (List ℤ) → List ℤ → Type 0
IsReducibleByHalf measure listed z =
    (u : List ℤ) × Contains listed u × (u ⊑ z) × (2 * measure u ≤ measure z)

-- The law. The lists are the defined ones at norm d, and z is a stage vector of the next norm e. Let u be a listed row
-- below z with more than half of the measure. What is left of z, w, is a stage vector below z that is not zero, with
-- less than half of it, and its norm is below e. So a minimal stage vector below w is listed, and has no larger measure.
abbrev pub HalvesDecide : Type 0
HalvesDecide =
    (S : LinearSystem) (k d e : ℕ) (listed waiting : List (List ℤ)) (measure : List ℤ → ℕ)
    → IsListed S k d listed → IsWaiting S k d waiting → IsNextNorm listed waiting d e
    → IsAdditive measure
    → (z : List ℤ) → IsStageVector S k z → stage_norm z ≡ e
    → IsReducible listed z ↔ IsReducibleByHalf measure listed z

-- ---- measures
-- the norm is such a measure, and so is the size of an entry
abbrev pub NormsAdd : Type 0
NormsAdd = IsAdditive stage_norm

abbrev pub SizesAdd : Type 0
SizesAdd = (j : ℕ) → IsAdditive (size_at j)
