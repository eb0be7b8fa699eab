-- The walk over candidates: each is taken as often as it fits below what is left.
use Rattle.std.specs.Prelude.{◌≡◌, ◌≤◌, ◌⊎◌, ℕ, List, [], ◌∷◌, ℤ, pos, ◌*ℤ◌, map}
use Rattle.std.specs.List.{AllByRecursion}
use Rattle.int_vector.specs.Vectors.{◌⊑◌}
use Rattle.int_vector.specs.Operations.{subtract}

-- c times a vector
abbrev pub times : ℕ → List ℤ → List ℤ
times c u = map (λ a. pos c *ℤ a) u

-- c is the greatest number with c times u below the rest
pub record IsMost (u rest : List ℤ) (c : ℕ) : Type 0 where
  pub below : times c u ⊑ rest
  pub most : (d : ℕ) → times d u ⊑ rest → d ≤ c

-- a vector, and how often it is taken
pub record Term : Type 0 where
  pub count : ℕ
  pub vector : List ℤ

-- a walk over the candidates from a rest: its terms, and what is left; a candidate that does not
-- fit once is passed over
abbrev pub IsWalk : List (List ℤ) → List ℤ → List Term → List ℤ → Type 0
IsWalk [] rest terms left = (terms ≡ []) × (rest ≡ left)
IsWalk (u ∷ us) rest terms left =
    (IsMost u rest 0 × IsWalk us rest terms left)
    ⊎ ((c : ℕ) × (later : List Term) × (1 ≤ c) × IsMost u rest c
    × (terms ≡ record { count = c; vector = u } ∷ later)
    × IsWalk us (subtract rest (times c u)) later left)

-- the vectors of the terms, each as often as it was taken
abbrev pub multiples : List Term → List (List ℤ)
multiples terms = map (λ t. times t.count t.vector) terms

abbrev pub vectors : List Term → List (List ℤ)
vectors terms = map (λ t. t.vector) terms

-- no vector is the same as one after it
abbrev pub AreDifferent : List (List ℤ) → Type 0
AreDifferent [] = Unit {0}
AreDifferent (u ∷ us) = AllByRecursion (λ w. u ≡ w → ⊥) us × AreDifferent us
