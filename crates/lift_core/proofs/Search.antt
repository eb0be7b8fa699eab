-- A search below a vector ends: of the finitely many vectors below it each fails a test, or one passes it.
-- By recursion on the entries: for the first entry x try 0, .., |x| with the sign of x, and for each of them search
-- the rest of the vector.
use Rattle.std.proofs.Common.{◌≡◌, ℕ, zero, suc, ◌≤◌, List, [], ◌∷◌, subst, arith, inl, inr, ◌⊎◌}
use Rattle.std.specs.Prelude.{ℤ, pos, negsuc, nat_abs, neg_ℤ}
use Rattle.std.proofs.lemmas.Int.{ints}
use Rattle.std.proofs.lemmas.Bool.{cases_lt}
use borrow.Author.Differences.{same_in}
use Rattle.int_vector.specs.Vectors.{IsWithin, ◌⊑◌}
use Rattle.int_vector.proofs.Numbers.{within_parts, within_from_parts, nat_abs-parts}

-- each number up to m fails, or one of them passes
pub search_upto : (A B : ℕ → Type 0) → ((n : ℕ) → A n ⊎ B n) → (m : ℕ) → ((n : ℕ) → n ≤ m → A n) ⊎ ((n : ℕ) × (n ≤ m) × B n)
search_upto A B test zero =
    elim (test zero) [
      | inl a ↦ inl (λ n h. let e : zero ≡ n = omega arith in subst A e a)
      | inr b ↦ inr (zero, omega arith, b)
    ]
search_upto A B test (suc m) =
    elim (test (suc m)) [
      | inr b ↦ inr (suc m, omega arith, b)
      | inl a ↦ elim (search_upto A B test m) [
        | inr found ↦ inr (found.0, omega (arith, found.1), found.2)
        | inl each ↦ inl (λ n h. elim (cases_lt n (suc m)) [
          | inl l ↦ each n (omega arith)
          | inr g ↦ let e : suc m ≡ n = omega arith in subst A e a
        ])
      ]
    ]

-- n with the sign of x
abbrev pub toward : ℤ → ℕ → ℤ
toward (pos a) n = pos n
toward (negsuc a) n = neg_ℤ (pos n)

toward_within : (x : ℤ) (n : ℕ) → n ≤ nat_abs x → IsWithin (toward x n) x
toward_within (pos a) n h = within_from_parts (pos n) (pos a) (omega arith)
toward_within (negsuc a) n h = within_from_parts (neg_ℤ (pos n)) (negsuc a) (omega (arith, ints))

within_toward : (a x : ℤ) → IsWithin a x → toward x (nat_abs a) ≡ a
within_toward a (pos b) h = same_in (pos (nat_abs a)) a (omega (arith, within_parts a (pos b) h, nat_abs-parts a))
within_toward a (negsuc b) h = same_in (neg_ℤ (pos (nat_abs a))) a (omega (arith, ints, within_parts a (negsuc b) h, nat_abs-parts a))

pub only_empty : (A : List ℤ → Type 0) → A [] → (w : List ℤ) → w ⊑ [] → A w
only_empty A a [] h = a
only_empty A a (x ∷ w) h = absurd h

pub from_each : (A : List ℤ → Type 0) (x : ℤ) (v : List ℤ) → ((n : ℕ) → n ≤ nat_abs x → (w : List ℤ) → w ⊑ v → A (toward x n ∷ w)) → (w : List ℤ) → w ⊑ x ∷ v → A w
from_each A x v each [] h = absurd h
from_each A x v each (a ∷ w) h = subst (λ b. A (b ∷ w)) (within_toward a x h.0) (each (nat_abs a) h.0.no_larger w h.1)

-- each vector below v fails, or one of them passes
pub search_below : (A B : List ℤ → Type 0) → ((w : List ℤ) → A w ⊎ B w) → (v : List ℤ) → ((w : List ℤ) → w ⊑ v → A w) ⊎ ((w : List ℤ) × (w ⊑ v) × B w)
search_below A B test [] =
    elim (test []) [
      | inl a ↦ inl (only_empty A a)
      | inr b ↦ inr ([], tt, b)
    ]
search_below A B test (x ∷ v) =
    elim (search_upto
    (λ n. (w : List ℤ) → w ⊑ v → A (toward x n ∷ w))
    (λ n. (w : List ℤ) × (w ⊑ v) × B (toward x n ∷ w))
    (λ n. search_below (λ w. A (toward x n ∷ w)) (λ w. B (toward x n ∷ w)) (λ w. test (toward x n ∷ w)) v)
    (nat_abs x)) [
      | inl each ↦ inl (from_each A x v each)
      | inr found ↦ inr (toward x found.0 ∷ found.2.0, (toward_within x found.0 found.1, found.2.1), found.2.2)
    ]
