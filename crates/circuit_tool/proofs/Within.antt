-- Supports within one another: what is below a vector has its support within it, and a support within another can be tested.
use Rattle.std.proofs.Common.{◌≡◌, ℕ, zero, suc, ◌<◌, List, [], ◌∷◌, length, get_or, ap, arith, inl, inr, ◌⊎◌}
use Rattle.std.specs.Prelude.{ℤ, pos, neg_ℤ, nat_abs}
use Rattle.std.proofs.lemmas.Int.{ints}
use Rattle.int_vector.specs.Vectors.{IsWithin, ◌⊑◌, IsZero, negated}
use Rattle.int_vector.proofs.Numbers.{zero_parts}
use Rattle.lift_core.proofs.Systems.{test_zip, test_same}
use Rattle.circuit_tool.specs.Circuits.{IsWithinSupport}

entry_below : (x y : ℤ) → IsWithin x y → y ≡ pos 0 → x ≡ pos 0
entry_below x y h e = zero_parts x (let a : nat_abs y ≡ 0 = ap nat_abs e in omega (arith, h.no_larger))

pub support_below : (u v : List ℤ) → u ⊑ v → IsWithinSupport u v
support_below [] [] h = tt
support_below (x ∷ u) (y ∷ v) h = (entry_below x y h.0, support_below u v h.1)
support_below [] (y ∷ v) h = absurd h
support_below (x ∷ u) [] h = absurd h

pub support_trans : (u v w : List ℤ) → IsWithinSupport u v → IsWithinSupport v w → IsWithinSupport u w
support_trans [] [] [] h k = tt
support_trans (x ∷ u) (y ∷ v) (z ∷ w) h k = (λ e. h.0 (k.0 e), support_trans u v w h.1 k.1)
support_trans [] [] (z ∷ w) h k = absurd k
support_trans [] (y ∷ v) w h k = absurd h
support_trans (x ∷ u) [] w h k = absurd h
support_trans (x ∷ u) (y ∷ v) [] h k = absurd k

neg_zero : (x : ℤ) → x ≡ pos 0 → neg_ℤ x ≡ pos 0
neg_zero x e = ap neg_ℤ e

neg_from_zero : (x : ℤ) → neg_ℤ x ≡ pos 0 → x ≡ pos 0
neg_from_zero x e = omega (arith, ints)

-- a vector and its negative have one support
pub support_negated : (v : List ℤ) → IsWithinSupport (negated v) v
support_negated [] = tt
support_negated (x ∷ v) = (neg_zero x, support_negated v)

pub support_of_negated : (v : List ℤ) → IsWithinSupport v (negated v)
support_of_negated [] = tt
support_of_negated (x ∷ v) = (neg_from_zero x, support_of_negated v)

test_entry : (x y : ℤ) → (y ≡ pos 0 → x ≡ pos 0) ⊎ ((y ≡ pos 0 → x ≡ pos 0) → ⊥)
test_entry x y =
    elim (test_same x (pos 0)) [
      | inl e ↦ inl (λ f. e)
      | inr out ↦ elim (test_same y (pos 0)) [
        | inl e ↦ inr (λ h. out (h e))
        | inr other ↦ inl (λ e. absurd (other e))
      ]
    ]

pub test_support : (u v : List ℤ) → IsWithinSupport u v ⊎ (IsWithinSupport u v → ⊥)
test_support u v = test_zip (λ x y. y ≡ pos 0 → x ≡ pos 0) test_entry u v

-- what is 0 somewhere, where v is not, does not have v's support within its own
pub support_misses : (u v : List ℤ) (j : ℕ) → j < length v → IsWithinSupport v u → get_or u j (pos 0) ≡ pos 0 → get_or v j (pos 0) ≡ pos 0
support_misses [] [] j h k e = absurd (omega arith)
support_misses (x ∷ u) (y ∷ v) zero h k e = k.0 e
support_misses (x ∷ u) (y ∷ v) (suc j) h k e = support_misses u v j (omega arith) k.1 e
support_misses [] (y ∷ v) j h k e = absurd k
support_misses (x ∷ u) [] j h k e = absurd k

-- a nonzero vector has a nonzero entry
pub nonzero_entry : (v : List ℤ) → ¬ IsZero v → (j : ℕ) × (j < length v) × (get_or v j (pos 0) ≡ pos 0 → ⊥)
nonzero_entry [] n = absurd (n tt)
nonzero_entry (x ∷ v) n =
    elim (test_same x (pos 0)) [
      | inr out ↦ (0, omega arith, out)
      | inl e ↦ let r : (j : ℕ) × (j < length v) × (get_or v j (pos 0) ≡ pos 0 → ⊥) = nonzero_entry v (λ z. n (e, z)) in (suc r.0, omega (arith, r.1), r.2)
    ]
