-- The counts of rows by their last entries, row by row.
use Rattle.std.proofs.Common.{◌≡◌, ◌⊎◌, inl, inr, ◌<◌, ◌+◌, ℕ, zero, suc, List, [], ◌∷◌, ◌++◌, length, get_or, Bool, true, false, cond, refl, sym, ap, ap₂, subst, ◌∙◌, arith}
use Rattle.std.specs.Prelude.{ℤ, pos, negsuc, All}
use Rattle.std.specs.Prelude.{int_lt}
use Rattle.std.specs.Ordering.{int_eq}
use Rattle.std.proofs.lemmas.Int.{ints}
use Rattle.std.specs.List.{count_by}
use Rattle.std.proofs.Math.ListN.{set}
use Rattle.std.proofs.lemmas.List.Sums.{sum_by-append, count_by-le-length}
use Rattle.lift_core.specs.Stages.{has_positive_last, has_negative_last, last}
use Rattle.lift_core.proofs.Stages.{last-get_or}
use Rattle.restart_file.specs.Texts.{class_counts, has_zero_last}
use Rattle.restart_file.specs.Inside.Classes.{class_of}

pub ruleset last_entry = (last-get_or)

count_pushed : (p : List ℤ → Bool) (xs : List (List ℤ)) (z : List ℤ) → count_by p (xs ++ z ∷ []) ≡ count_by p xs + cond (p z) 1 0
count_pushed p xs z = sum_by-append (λ x. cond (p x) 1 0) xs (z ∷ []) ∙ ap (λ n. count_by p xs + n) (omega arith)

-- ---- one of the three
abbrev IsOne : Bool → Bool → Bool → Type 0
IsOne a b c = ((a ≡ true) × (b ≡ false) × (c ≡ false)) ⊎ ((a ≡ false) × (b ≡ true) × (c ≡ false)) ⊎ ((a ≡ false) × (b ≡ false) × (c ≡ true))

signs : (x : ℤ) → IsOne (int_lt (pos 0) x) (int_eq x (pos 0)) (int_lt x (pos 0))
signs (pos zero) = inr (inl (refl, refl, refl))
signs (pos (suc n)) = inl (grind (arith, ints), grind (arith, ints), grind (arith, ints))
signs (negsuc n) = inr (inr (grind (arith, ints), grind (arith, ints), grind (arith, ints)))

three : (a b c d e f : ℕ) → a ≡ d → b ≡ e → c ≡ f → (a ∷ b ∷ c ∷ []) ≡ (d ∷ e ∷ f ∷ [])
three a b c d e f p q r = ap (λ x. x ∷ b ∷ c ∷ []) p ∙ ap₂ (λ x y. d ∷ x ∷ y ∷ []) q r

added_at : (p q r : ℕ) (a b c : Bool) → IsOne a b c → set (p ∷ q ∷ r ∷ []) (cond a 0 (cond b 1 2)) (get_or (p ∷ q ∷ r ∷ []) (cond a 0 (cond b 1 2)) 0 + 1) ≡ (p + cond a 1 0) ∷ (q + cond b 1 0) ∷ (r + cond c 1 0) ∷ []
added_at p q r a b c (inl t) = rw (t.0, t.1, t.2) (three (p + 1) q r (p + 1) (q + 0) (r + 0) refl (omega arith) (omega arith))
added_at p q r a b c (inr (inl t)) = rw (t.0, t.1, t.2) (three p (q + 1) r (p + 0) (q + 1) (r + 0) (omega arith) refl (omega arith))
added_at p q r a b c (inr (inr t)) = rw (t.0, t.1, t.2) (three p q (r + 1) (p + 0) (q + 0) (r + 1) (omega arith) (omega arith) refl)

class_added : (rows : List (List ℤ)) (z : List ℤ) → set (class_counts rows) (class_of z) (get_or (class_counts rows) (class_of z) 0 + 1) ≡ class_counts (rows ++ z ∷ [])
class_added rows z =
    added_at (count_by has_positive_last rows) (count_by has_zero_last rows) (count_by has_negative_last rows) (has_positive_last z) (has_zero_last z) (has_negative_last z) (signs (last z))
    ∙ sym (three (count_by has_positive_last (rows ++ z ∷ [])) (count_by has_zero_last (rows ++ z ∷ [])) (count_by has_negative_last (rows ++ z ∷ [])) _ _ _
    (count_pushed has_positive_last rows z) (count_pushed has_zero_last rows z) (count_pushed has_negative_last rows z))

pub class_counted : (old new : List ℕ) (place : ℕ) (z : List ℤ) → place ≡ class_of z → new ≡ set old place (get_or old place 0 + 1) → (rows : List (List ℤ)) → old ≡ class_counts rows → new ≡ class_counts (rows ++ z ∷ [])
class_counted old new place z at is rows e = is ∙ ap (λ k. set old k (get_or old k 0 + 1)) at ∙ ap (λ l. set l (class_of z) (get_or l (class_of z) 0 + 1)) e ∙ class_added rows z

-- no row is counted yet
pub none_counted : class_counts [] ≡ 0 ∷ 0 ∷ 0 ∷ []
none_counted = refl

small_counts : (rows : List (List ℤ)) (n : ℕ) → length rows < n → All (λ k. k < n) (class_counts rows)
small_counts rows n h zero d l = omega (arith, count_by-le-length has_positive_last rows)
small_counts rows n h (suc zero) d l = omega (arith, count_by-le-length has_zero_last rows)
small_counts rows n h (suc (suc zero)) d l = omega (arith, count_by-le-length has_negative_last rows)
small_counts rows n h (suc (suc (suc i))) d l = absurd (omega (arith, l))

pub counts_small : (rows : List (List ℤ)) (counts : List ℕ) (n : ℕ) → length rows < n → counts ≡ class_counts rows → All (λ k. k < n) counts
counts_small rows counts n h e = subst (λ l. All (λ k. k < n) l) (sym e) (small_counts rows n h)
