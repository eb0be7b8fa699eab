-- The law of halves, and two measures for which it holds.
-- Of a listed row below z and what is left of z, one has at most half of the measure; below what is left stands a minimal
-- stage vector, which is listed, as its norm is below the next one.
use Rattle.std.proofs.Common.{◌≡◌, ℕ, zero, suc, ◌+◌, ◌-◌, ◌*◌, ◌≤◌, ◌<◌, List, [], ◌∷◌, refl, ap, arith, inl, inr}
use Rattle.std.specs.Prelude.{ℤ, nat_abs, ◌-ℤ◌, ◌↔◌}
use Rattle.std.specs.List.{Contains}
use Rattle.std.proofs.lemmas.Bool.{cases_lt}
use Rattle.int_vector.specs.Vectors.{norm, ◌⊑◌, IsWithin}
use Rattle.int_vector.specs.Operations.{subtract}
use Rattle.int_vector.proofs.Numbers.{nat_abs-parts, parts_of_difference}
use Rattle.int_vector.proofs.Vectors.{below_trans, below_same, difference_below, difference_norm, zero_norm}
use Rattle.lift_core.specs.Systems.{LinearSystem, row, Solves}
use Rattle.lift_core.specs.Stages.{front, stage_norm, IsStageVector, IsStageMinimal, IsListed, IsWaiting, IsNextNorm}
use Rattle.lift_core.specs.Halves.{IsAdditive, size_at, IsReducible, IsReducibleByHalf}
use Rattle.lift_core.proofs.Minimal.{zero_or_not, minimal_below}
use Rattle.lift_core.proofs.Systems.{solves_closed}
use Rattle.lift_core.proofs.Extended.{extended_closed}
use Rattle.lift_core.proofs.Growth.{below_listed, stage_norm-below, stage_positive}

-- ---- measures
front_below : (u z : List ℤ) → u ⊑ z → front u ⊑ front z
front_below [] [] h = tt
front_below [] (y ∷ z) h = absurd h
front_below (x ∷ u) [] h = absurd h
front_below (x ∷ []) (y ∷ []) h = tt
front_below (x ∷ []) (y ∷ b ∷ z) h = absurd h.1
front_below (x ∷ a ∷ u) (y ∷ []) h = absurd h.1
front_below (x ∷ a ∷ u) (y ∷ b ∷ z) h = (h.0, front_below (a ∷ u) (b ∷ z) h.1)

front-subtract : (u z : List ℤ) → u ⊑ z → front (subtract z u) ≡ subtract (front z) (front u)
front-subtract [] [] h = refl
front-subtract [] (y ∷ z) h = absurd h
front-subtract (x ∷ u) [] h = absurd h
front-subtract (x ∷ []) (y ∷ []) h = refl
front-subtract (x ∷ []) (y ∷ b ∷ z) h = absurd h.1
front-subtract (x ∷ a ∷ u) (y ∷ []) h = absurd h.1
front-subtract (x ∷ a ∷ u) (y ∷ b ∷ z) h = ap (λ r. (y -ℤ x) ∷ r) (front-subtract (a ∷ u) (b ∷ z) h.1)

pub norms_add : IsAdditive stage_norm
norms_add u z h = omega (arith, difference_norm (front u) (front z) (front_below u z h), ap norm (front-subtract u z h))

size_adds : (x y : ℤ) → IsWithin x y → nat_abs x + nat_abs (y -ℤ x) ≡ nat_abs y
size_adds x y w = let p = parts_of_difference x y w in omega (arith, p.0, p.1, nat_abs-parts x, nat_abs-parts y, nat_abs-parts (y -ℤ x))

pub sizes_add : (j : ℕ) → IsAdditive (size_at j)
sizes_add j [] [] h = refl
sizes_add j [] (y ∷ z) h = absurd h
sizes_add j (x ∷ u) [] h = absurd h
sizes_add zero (x ∷ u) (y ∷ z) h = size_adds x y h.0
sizes_add (suc j) (x ∷ u) (y ∷ z) h = sizes_add j u z h.1

-- ---- the law
module _ (S : LinearSystem) (k d e : ℕ) (listed waiting : List (List ℤ)) (is_listed : IsListed S k d listed) (is_waiting : IsWaiting S k d waiting) (next : IsNextNorm listed waiting d e) where
  -- what is left of z beside a listed row is a nonzero stage vector
  left_is : (u z : List ℤ) → Contains listed u → u ⊑ z → IsStageVector S k z → stage_norm z ≡ e → IsStageVector S k (subtract z u) × (0 < norm (subtract z u)) × (stage_norm (subtract z u) < e)
  left_is u z c b p n =
      let l : IsStageMinimal S k u × (stage_norm u ≤ d) = (is_listed.is.members u).0 c in (
        (extended_closed (Solves S (k - 1)) (solves_closed S (k - 1)) (row S k)).difference u z l.0.member p b,
        elim (zero_or_not (subtract z u)) [
          | inr m ↦ m
          | inl none ↦ absurd (omega (arith, next.above, l.1, n, ap stage_norm (below_same u z b (omega (arith, difference_norm u z b, zero_norm (subtract z u) none)))))
        ],
        omega (arith, norms_add u z b, stage_positive S k u l.0.member l.0.nonzero, n),
      )

  half_below : (measure : List ℤ → ℕ) → IsAdditive measure → (z : List ℤ) → IsStageVector S k z → stage_norm z ≡ e → IsReducible listed z → IsReducibleByHalf measure listed z
  half_below measure adds z p n (u, c, b) = elim (cases_lt (measure z) (2 * measure u)) [
    | inr few ↦ (u, c, b, few)
    | inl many ↦
        let w : List ℤ = subtract z u in
        let left = left_is u z c b p n in
        let low : (v : List ℤ) × IsStageMinimal S k v × (v ⊑ subtract z u) = minimal_below (IsStageVector S k) (extended_closed (Solves S (k - 1)) (solves_closed S (k - 1)) (row S k)) (subtract z u) left.0 left.1 in (
          low.0,
          below_listed S k d listed waiting is_listed is_waiting e next low.0 low.1 (omega (arith, left.2, stage_norm-below S k low.0 (subtract z u) low.1.member left.0 low.2)),
          below_trans low.0 (subtract z u) z low.2 (difference_below u z b),
          omega (arith, many, adds u z b, adds low.0 (subtract z u) low.2),
        )
  ]

  pub halves_decide : (measure : List ℤ → ℕ) → IsAdditive measure → (z : List ℤ) → IsStageVector S k z → stage_norm z ≡ e → IsReducible listed z ↔ IsReducibleByHalf measure listed z
  halves_decide measure adds z p n = (half_below measure adds z p n, λ r. (r.0, r.1, r.2))
