-- Negatives of vectors: they keep lengths and norms, the conformal order, products up to sign, and zero.
use Rattle.std.proofs.Common.{◌≡◌, suc, List, [], ◌∷◌, length, refl, ap, ap₂, sym, ◌∙◌, arith}
use Rattle.std.specs.Prelude.{ℤ, ◌*ℤ◌, ◌+ℤ◌, neg_ℤ}
use Rattle.std.proofs.lemmas.Int.{ints}
use Rattle.int_vector.specs.Vectors.{dot, IsWithin, ◌⊑◌, IsZero, negated}

neg_neg : (x : ℤ) → neg_ℤ (neg_ℤ x) ≡ x
neg_neg x = omega (arith, ints)

neg_within : (x y : ℤ) → IsWithin x y → IsWithin (neg_ℤ x) (neg_ℤ y)
neg_within x y h = record { same_sign = grind (arith, ints, h.same_sign); no_larger = omega (arith, ints, h.no_larger) }

neg_sum : (a x d : ℤ) → (a *ℤ neg_ℤ x) +ℤ neg_ℤ d ≡ neg_ℤ ((a *ℤ x) +ℤ d)
neg_sum a x d = grind (arith, ints)

pub negated_twice : (v : List ℤ) → negated (negated v) ≡ v
negated_twice [] = refl
negated_twice (x ∷ v) = ap₂ (λ a w. a ∷ w) (neg_neg x) (negated_twice v)

pub length-negated : (v : List ℤ) → length (negated v) ≡ length v
length-negated [] = refl
length-negated (x ∷ v) = ap suc (length-negated v)

pub negated_below : (u v : List ℤ) → u ⊑ v → negated u ⊑ negated v
negated_below [] [] h = tt
negated_below (x ∷ u) (y ∷ v) h = (neg_within x y h.0, negated_below u v h.1)
negated_below [] (y ∷ v) h = absurd h
negated_below (x ∷ u) [] h = absurd h

pub negated_zero : (v : List ℤ) → IsZero (negated v) → IsZero v
negated_zero [] h = tt
negated_zero (x ∷ v) h = (sym (neg_neg x) ∙ ap neg_ℤ h.0, negated_zero v h.1)

pub dot-negated : (r v : List ℤ) → dot r (negated v) ≡ neg_ℤ (dot r v)
dot-negated [] v = refl
dot-negated (a ∷ r) [] = refl
dot-negated (a ∷ r) (x ∷ v) = ap (λ d. (a *ℤ neg_ℤ x) +ℤ d) (dot-negated r v) ∙ neg_sum a x (dot r v)
