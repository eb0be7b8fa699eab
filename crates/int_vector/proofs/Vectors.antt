-- The order, sums and differences of vectors.
use Rattle.std.proofs.Common.{◌≡◌, zero, suc, ◌+◌, ◌≤◌, ◌<◌, List, [], ◌∷◌, length, refl, ap, ap₂, arith}
use Rattle.std.specs.Prelude.{ℤ, ◌+ℤ◌, ◌-ℤ◌, ◌*ℤ◌, nat_abs}
use Rattle.std.proofs.lemmas.Int.{ints}
use borrow.Author.Differences.{same_in}
use Rattle.int_vector.specs.Vectors.{IsWithin, norm, dot, ◌⊑◌, IsZero}
use Rattle.int_vector.specs.Operations.{add, subtract, AreConformal}
use Rattle.int_vector.proofs.Numbers.{within_from_parts, nat_abs-parts, zero_parts, parts_of_sum, parts_of_difference, mul-add, mul-subtract, same_sign_within, same_sign_swap}

within_refl : (x : ℤ) → IsWithin x x
within_refl x = within_from_parts x x (omega arith)

within_trans : (x y z : ℤ) → IsWithin x y → IsWithin y z → IsWithin x z
within_trans x y z h k = grind (arith, ints)

within_same : (x y : ℤ) → IsWithin x y → nat_abs y ≤ nat_abs x → x ≡ y
within_same x y h k = grind (arith, ints)

pub below_refl : (v : List ℤ) → v ⊑ v
below_refl [] = tt
below_refl (x ∷ v) = (within_refl x, below_refl v)

pub below_trans : (u v w : List ℤ) → u ⊑ v → v ⊑ w → u ⊑ w
below_trans [] [] [] h k = tt
below_trans (x ∷ u) (y ∷ v) (z ∷ w) h k = (within_trans x y z h.0 k.0, below_trans u v w h.1 k.1)
below_trans [] [] (z ∷ w) h k = k
below_trans [] (y ∷ v) w h k = absurd h
below_trans (x ∷ u) [] w h k = absurd h
below_trans (x ∷ u) (y ∷ v) [] h k = absurd k

pub below_norm : (u v : List ℤ) → u ⊑ v → norm u ≤ norm v
below_norm [] [] h = omega arith
below_norm (x ∷ u) (y ∷ v) h = omega (arith, h.0.no_larger, below_norm u v h.1)
below_norm [] (y ∷ v) h = absurd h
below_norm (x ∷ u) [] h = absurd h

-- what is below a vector and has its norm is that vector
pub below_same : (u v : List ℤ) → u ⊑ v → norm v ≤ norm u → u ≡ v
below_same [] [] h k = refl
below_same (x ∷ u) (y ∷ v) h k =
    ap₂ (λ a w. a ∷ w)
    (within_same x y h.0 (omega (arith, below_norm u v h.1)))
    (below_same u v h.1 (omega (arith, h.0.no_larger)))
below_same [] (y ∷ v) h k = absurd h
below_same (x ∷ u) [] h k = absurd h

pub length-below : (u v : List ℤ) → u ⊑ v → length u ≡ length v
length-below [] [] h = refl
length-below (x ∷ u) (y ∷ v) h = ap suc (length-below u v h.1)
length-below [] (y ∷ v) h = absurd h
length-below (x ∷ u) [] h = absurd h

pub zero_norm : (v : List ℤ) → IsZero v → norm v ≡ 0
zero_norm [] h = refl
zero_norm (x ∷ v) h = omega (arith, ap nat_abs h.0, zero_norm v h.1)

pub zero_from_norm : (v : List ℤ) → norm v ≡ 0 → IsZero v
zero_from_norm [] h = tt
zero_from_norm (x ∷ v) h = (zero_parts x (omega arith), zero_from_norm v (omega arith))

pub norm_positive : (v : List ℤ) → ¬ IsZero v → 0 < norm v
norm_positive v h = elim (norm v) as (λ n. norm v ≡ n → 0 < n) [ zero ↦ λ e. absurd (h (zero_from_norm v e)) | suc n ↦ λ e. omega arith ] refl

pub nonzero_from_norm : (v : List ℤ) → 0 < norm v → ¬ IsZero v
nonzero_from_norm v h z = omega (arith, zero_norm v z)

-- ---- differences
pub difference_below : (u v : List ℤ) → u ⊑ v → subtract v u ⊑ v
difference_below [] [] h = tt
difference_below (x ∷ u) (y ∷ v) h =
    (within_from_parts (y -ℤ x) y (omega (arith, parts_of_difference x y h.0)), difference_below u v h.1)
difference_below [] (y ∷ v) h = absurd h
difference_below (x ∷ u) [] h = absurd h

pub difference_norm : (u v : List ℤ) → u ⊑ v → norm (subtract v u) + norm u ≡ norm v
difference_norm [] [] h = refl
difference_norm (x ∷ u) (y ∷ v) h =
    omega (arith, parts_of_difference x y h.0, nat_abs-parts x, nat_abs-parts y, nat_abs-parts (y -ℤ x), difference_norm u v h.1)
difference_norm [] (y ∷ v) h = absurd h
difference_norm (x ∷ u) [] h = absurd h

pub add-subtract : (u v : List ℤ) → length u ≡ length v → add u (subtract v u) ≡ v
add-subtract [] [] h = refl
add-subtract (x ∷ u) (y ∷ v) h = ap₂ (λ a w. a ∷ w) (same_in (x +ℤ (y -ℤ x)) y (omega (arith, ints))) (add-subtract u v (omega arith))
add-subtract [] (y ∷ v) h = absurd (omega arith)
add-subtract (x ∷ u) [] h = absurd (omega arith)

-- ---- sums
pub sum_norm : (u v : List ℤ) → AreConformal u v → norm (add u v) ≡ norm u + norm v
sum_norm [] [] h = refl
sum_norm (x ∷ u) (y ∷ v) h = omega (arith, parts_of_sum x y h.0, nat_abs-parts x, nat_abs-parts y, nat_abs-parts (x +ℤ y), sum_norm u v h.1)
sum_norm [] (y ∷ v) h = absurd h
sum_norm (x ∷ u) [] h = absurd h

pub left_below_sum : (u v : List ℤ) → AreConformal u v → u ⊑ add u v
left_below_sum [] [] h = tt
left_below_sum (x ∷ u) (y ∷ v) h = (within_from_parts x (x +ℤ y) (omega (arith, parts_of_sum x y h.0)), left_below_sum u v h.1)
left_below_sum [] (y ∷ v) h = absurd h
left_below_sum (x ∷ u) [] h = absurd h

-- ---- products with a row
pub dot-add : (row u v : List ℤ) → length u ≡ length v → dot row (add u v) ≡ dot row u +ℤ dot row v
dot-add [] u v h = refl
dot-add (a ∷ row) [] [] h = refl
dot-add (a ∷ row) (x ∷ u) (y ∷ v) h = let e : dot row (add u v) ≡ dot row u +ℤ dot row v = dot-add row u v (omega arith) in rw (mul-add a x y, e) (same_in (a *ℤ x +ℤ a *ℤ y +ℤ (dot row u +ℤ dot row v)) (a *ℤ x +ℤ dot row u +ℤ (a *ℤ y +ℤ dot row v)) (omega (arith, ints)))
dot-add (a ∷ row) [] (y ∷ v) h = absurd (omega arith)
dot-add (a ∷ row) (x ∷ u) [] h = absurd (omega arith)

pub dot-subtract : (row u v : List ℤ) → length u ≡ length v → dot row (subtract v u) ≡ dot row v -ℤ dot row u
dot-subtract [] u v h = refl
dot-subtract (a ∷ row) [] [] h = refl
dot-subtract (a ∷ row) (x ∷ u) (y ∷ v) h = let e : dot row (subtract v u) ≡ dot row v -ℤ dot row u = dot-subtract row u v (omega arith) in rw (mul-subtract a y x, e) (same_in (a *ℤ y -ℤ a *ℤ x +ℤ (dot row v -ℤ dot row u)) (a *ℤ y +ℤ dot row v -ℤ (a *ℤ x +ℤ dot row u)) (omega (arith, ints)))
dot-subtract (a ∷ row) [] (y ∷ v) h = absurd (omega arith)
dot-subtract (a ∷ row) (x ∷ u) [] h = absurd (omega arith)

pub conformal_within : (u v w : List ℤ) → u ⊑ w → v ⊑ w → AreConformal u v
conformal_within [] [] [] h k = tt
conformal_within (x ∷ u) (y ∷ v) (z ∷ w) h k = (same_sign_within x y z h.0 k.0, conformal_within u v w h.1 k.1)
conformal_within [] [] (z ∷ w) h k = tt
conformal_within [] (y ∷ v) [] h k = absurd k
conformal_within [] (y ∷ v) (z ∷ w) h k = absurd h
conformal_within (x ∷ u) v [] h k = absurd h
conformal_within (x ∷ u) [] (z ∷ w) h k = absurd k

pub conformal_swap : (u v : List ℤ) → AreConformal u v → AreConformal v u
conformal_swap [] [] h = tt
conformal_swap (x ∷ u) (y ∷ v) h = (same_sign_swap x y h.0, conformal_swap u v h.1)
conformal_swap [] (y ∷ v) h = absurd h
conformal_swap (x ∷ u) [] h = absurd h

pub length-conformal : (u v : List ℤ) → AreConformal u v → length u ≡ length v
length-conformal [] [] h = refl
length-conformal (x ∷ u) (y ∷ v) h = ap suc (length-conformal u v h.1)
length-conformal [] (y ∷ v) h = absurd h
length-conformal (x ∷ u) [] h = absurd h

pub add_comm : (u v : List ℤ) → length u ≡ length v → add u v ≡ add v u
add_comm [] [] h = refl
add_comm (x ∷ u) (y ∷ v) h = ap₂ (λ a w. a ∷ w) (same_in (x +ℤ y) (y +ℤ x) (omega (arith, ints))) (add_comm u v (omega arith))
add_comm [] (y ∷ v) h = absurd (omega arith)
add_comm (x ∷ u) [] h = absurd (omega arith)
