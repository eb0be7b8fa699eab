-- Multiples of vectors: their length, norm, support and products with rows, and vectors of one support whose combination is zero.
use Rattle.std.proofs.Common.{◌≡◌, ℕ, zero, suc, ◌*◌, ◌<◌, ◌≤◌, List, [], ◌∷◌, length, get_or, replicate, refl, ap, ap₂, sym, ◌∙◌, arith, inl, inr}
use Rattle.std.specs.Prelude.{ℤ, pos, ◌+ℤ◌, ◌-ℤ◌, ◌*ℤ◌, nat_abs}
use Rattle.std.specs.List.{AllZip}
use Rattle.std.proofs.lemmas.Int.{ints}
use borrow.Author.Differences.{up, down, same_in, product_is}
use Rattle.std.proofs.lemmas.Bool.{cases_lt}
use Rattle.std.proofs.Math.Nat.{mul-le-mul_left, mul-le-mul_right}
use Rattle.int_vector.specs.Vectors.{norm, dot, IsWithin, ◌⊑◌, IsZero}
use Rattle.int_vector.specs.Operations.{add, subtract}
use Rattle.int_vector.proofs.Numbers.{same_sign_within, mul-add}
use Rattle.system_files.specs.Kernel.{IsInKernel}
use Rattle.circuit_tool.specs.Circuits.{IsWithinSupport, scaled}

pub length-scaled : (a : ℤ) (v : List ℤ) → length (scaled a v) ≡ length v
length-scaled a [] = refl
length-scaled a (x ∷ v) = ap suc (length-scaled a v)

nat_abs-product : (a x : ℤ) → nat_abs (a *ℤ x) ≡ nat_abs a * nat_abs x
nat_abs-product a x = grind (arith, ints)

pub norm-scaled : (a : ℤ) (v : List ℤ) → norm (scaled a v) ≡ nat_abs a * norm v
norm-scaled a [] = omega arith
norm-scaled a (x ∷ v) = omega (arith, nat_abs-product a x, norm-scaled a v)

swap_product : (a r x : ℤ) → r *ℤ (a *ℤ x) ≡ a *ℤ (r *ℤ x)
swap_product a r x =
    same_in (r *ℤ (a *ℤ x)) (a *ℤ (r *ℤ x))
    (omega (
      arith,
      ints,
      ap (λ n. up r * n) (product_is a x).0,
      ap (λ n. up r * n) (product_is a x).1,
      ap (λ n. down r * n) (product_is a x).0,
      ap (λ n. down r * n) (product_is a x).1,
      ap (λ n. up a * n) (product_is r x).0,
      ap (λ n. up a * n) (product_is r x).1,
      ap (λ n. down a * n) (product_is r x).0,
      ap (λ n. down a * n) (product_is r x).1,
    ))

pub dot-scaled : (a : ℤ) (row v : List ℤ) → dot row (scaled a v) ≡ a *ℤ dot row v
dot-scaled a [] v = grind (arith, ints)
dot-scaled a (r ∷ row) [] = grind (arith, ints)
dot-scaled a (r ∷ row) (x ∷ v) = ap₂ (λ p q. p +ℤ q) (swap_product a r x) (dot-scaled a row v) ∙ sym (mul-add a (r *ℤ x) (dot row v))

zero_times : (a : ℤ) → a *ℤ pos 0 ≡ pos 0
zero_times a = grind (arith, ints)

pub kernel_scaled : (rows : List (List ℤ)) (a : ℤ) (v : List ℤ) → IsInKernel rows v → IsInKernel rows (scaled a v)
kernel_scaled [] a v h = tt
kernel_scaled (r ∷ rows) a v h = (dot-scaled a r v ∙ ap (λ x. a *ℤ x) h.0 ∙ zero_times a, kernel_scaled rows a v h.1)

no_factor : (a x : ℤ) → 0 < nat_abs a → a *ℤ x ≡ pos 0 → x ≡ pos 0
no_factor a x h e = grind (arith, ints)

pub kernel_from_scaled : (rows : List (List ℤ)) (a : ℤ) (v : List ℤ) → 0 < nat_abs a → IsInKernel rows (scaled a v) → IsInKernel rows v
kernel_from_scaled [] a v h k = tt
kernel_from_scaled (r ∷ rows) a v h k = (no_factor a (dot r v) h (sym (dot-scaled a r v) ∙ k.0), kernel_from_scaled rows a v h k.1)

entry_scaled : (d : ℕ) (x : ℤ) → 0 < d → IsWithin x (pos d *ℤ x)
entry_scaled d x h = record { same_sign = grind (arith, ints); no_larger = omega (arith, nat_abs-product (pos d) x, mul-le-mul_right (nat_abs x) h) }

pub below_scaled : (d : ℕ) (v : List ℤ) → 0 < d → v ⊑ scaled (pos d) v
below_scaled d [] h = tt
below_scaled d (x ∷ v) h = (entry_scaled d x h, below_scaled d v h)

-- ---- two vectors of one support
-- b times g, taken from a times h
abbrev pub combined : ℤ → ℤ → List ℤ → List ℤ → List ℤ
combined a b g h = subtract (scaled a h) (scaled b g)

combined_entry : (a b x y z : ℤ) → (z ≡ pos 0 → x ≡ pos 0) → (z ≡ pos 0 → y ≡ pos 0) → z ≡ pos 0 → (a *ℤ y) -ℤ (b *ℤ x) ≡ pos 0
combined_entry a b x y z h k e = ap₂ (λ p q. (a *ℤ p) -ℤ (b *ℤ q)) (k e) (h e) ∙ ap₂ (λ p q. p -ℤ q) (zero_times a) (zero_times b)

pub combined_support : (a b : ℤ) (g h u : List ℤ) → IsWithinSupport g u → IsWithinSupport h u → IsWithinSupport (combined a b g h) u
combined_support a b [] [] [] p q = tt
combined_support a b (x ∷ g) (y ∷ h) (z ∷ u) p q = (combined_entry a b x y z p.0 q.0, combined_support a b g h u p.1 q.1)
combined_support a b [] (y ∷ h) [] p q = absurd q
combined_support a b [] h (z ∷ u) p q = absurd p
combined_support a b (x ∷ g) h [] p q = absurd p
combined_support a b (x ∷ g) [] (z ∷ u) p q = absurd q

pub length-combined : (a b : ℤ) (g h : List ℤ) → length g ≡ length h → length (combined a b g h) ≡ length g
length-combined a b [] [] e = refl
length-combined a b (x ∷ g) (y ∷ h) e = ap suc (length-combined a b g h (omega arith))
length-combined a b [] (y ∷ h) e = absurd (omega arith)
length-combined a b (x ∷ g) [] e = absurd (omega arith)

pub combined_at : (a b : ℤ) (g h : List ℤ) (j : ℕ) → length g ≡ length h → j < length g →
    get_or (combined a b g h) j (pos 0) ≡ (a *ℤ get_or h j (pos 0)) -ℤ (b *ℤ get_or g j (pos 0))
combined_at a b [] h j e l = absurd (omega arith)
combined_at a b (x ∷ g) [] j e l = absurd (omega arith)
combined_at a b (x ∷ g) (y ∷ h) zero e l = refl
combined_at a b (x ∷ g) (y ∷ h) (suc j) e l = combined_at a b g h j (omega arith) (omega arith)

same_from_difference : (p q : ℤ) → p -ℤ q ≡ pos 0 → p ≡ q
same_from_difference p q e = grind (arith, ints)

pub proportional : (a b : ℤ) (g h : List ℤ) → length g ≡ length h → IsZero (combined a b g h) → AllZip (λ x y. a *ℤ y ≡ b *ℤ x) g h
proportional a b [] [] e z = tt
proportional a b [] (y ∷ h) e z = absurd (omega arith)
proportional a b (x ∷ g) [] e z = absurd (omega arith)
proportional a b (x ∷ g) (y ∷ h) e z = (same_from_difference (a *ℤ y) (b *ℤ x) z.0, proportional a b g h (omega arith) z.1)

smaller : (a b x y : ℕ) → a * y ≡ b * x → a ≤ b → 0 < b → x ≤ y
smaller a b x y e l n =
    elim (cases_lt y x) [
      | inr g ↦ g
      | inl g ↦ absurd (omega (arith, mul-le-mul_left b g, mul-le-mul_right y l))
    ]

ratio_entry : (a b x y z : ℤ) → a *ℤ y ≡ b *ℤ x → nat_abs a ≤ nat_abs b → 0 < nat_abs b → IsWithin x z → IsWithin y z → IsWithin x y
ratio_entry a b x y z e l n p q = record {
  same_sign = same_sign_within x y z p q;
  no_larger = smaller (nat_abs a) (nat_abs b) (nat_abs x) (nat_abs y) (sym (nat_abs-product a y) ∙ ap nat_abs e ∙ nat_abs-product b x) l n;
}

-- proportional vectors below one vector are below each other
pub ratio_below : (a b : ℤ) (g h u : List ℤ) → AllZip (λ x y. a *ℤ y ≡ b *ℤ x) g h → nat_abs a ≤ nat_abs b → 0 < nat_abs b → g ⊑ u → h ⊑ u → g ⊑ h
ratio_below a b [] [] u e l n p q = tt
ratio_below a b (x ∷ g) (y ∷ h) (z ∷ u) e l n p q = (ratio_entry a b x y z e.0 l n p.0 q.0, ratio_below a b g h u e.1 l n p.1 q.1)
ratio_below a b [] (y ∷ h) u e l n p q = absurd e
ratio_below a b (x ∷ g) [] u e l n p q = absurd e
ratio_below a b (x ∷ g) (y ∷ h) [] e l n p q = absurd p

swapped : (a b : ℤ) (g h : List ℤ) → AllZip (λ x y. a *ℤ y ≡ b *ℤ x) g h → AllZip (λ y x. b *ℤ x ≡ a *ℤ y) h g
swapped a b [] [] e = tt
swapped a b (x ∷ g) (y ∷ h) e = (sym e.0, swapped a b g h e.1)
swapped a b [] (y ∷ h) e = absurd e
swapped a b (x ∷ g) [] e = absurd e

pub ratio_above : (a b : ℤ) (g h u : List ℤ) → AllZip (λ x y. a *ℤ y ≡ b *ℤ x) g h → nat_abs b ≤ nat_abs a → 0 < nat_abs a → g ⊑ u → h ⊑ u → h ⊑ g
ratio_above a b g h u e l n p q = ratio_below b a h g u (swapped a b g h e) l n q p

-- ---- sums of one vector
scaled_more : (k : ℕ) (x : ℤ) → x +ℤ (pos k *ℤ x) ≡ pos (suc k) *ℤ x
scaled_more k x = grind (arith, ints)

pub add-scaled : (k : ℕ) (v : List ℤ) → add v (scaled (pos k) v) ≡ scaled (pos (suc k)) v
add-scaled k [] = refl
add-scaled k (x ∷ v) = ap₂ (λ a w. a ∷ w) (scaled_more k x) (add-scaled k v)

none_times : (x : ℤ) → pos 0 ≡ pos 0 *ℤ x
none_times x = grind (arith, ints)

pub scaled_nothing : (v : List ℤ) → replicate (length v) (pos 0) ≡ scaled (pos 0) v
scaled_nothing [] = refl
scaled_nothing (x ∷ v) = ap₂ (λ a w. a ∷ w) (none_times x) (scaled_nothing v)

one_times : (x : ℤ) → pos 1 *ℤ x ≡ x
one_times x = grind (arith, ints)

pub scaled_once : (v : List ℤ) → scaled (pos 1) v ≡ v
scaled_once [] = refl
scaled_once (x ∷ v) = ap₂ (λ a w. a ∷ w) (one_times x) (scaled_once v)

pub zero_scaled : (a : ℤ) (v : List ℤ) → IsZero v → IsZero (scaled a v)
zero_scaled a [] z = tt
zero_scaled a (x ∷ v) z = (ap (λ y. a *ℤ y) z.0 ∙ zero_times a, zero_scaled a v z.1)
