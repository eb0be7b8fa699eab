-- A row below another has the sign of its last entry or none, and a last entry that is no larger.
use Rattle.std.proofs.Common.{◌≡◌, ℕ, zero, suc, ◌-◌, ◌<◌, ◌≤◌, ◌⊎◌, List, [], ◌∷◌, length, get_or, refl, subst, arith, inl, inr}
use Rattle.std.specs.Prelude.{ℤ, pos, negsuc, nat_abs, min}
use Rattle.std.proofs.lemmas.Int.{ints}
use Rattle.int_vector.specs.Vectors.{IsWithin, ◌⊑◌}
use Rattle.reduce_tree.specs.Items.{last_of, part_at, part_of, size_of}
use Rattle.reduce_tree.proofs.Signatures.{not_against, not_against_below}

-- ---- rows below another
pub entry_within : (u v : List ℤ) (j : ℕ) → u ⊑ v → j < length u → IsWithin (get_or u j (pos 0)) (get_or v j (pos 0))
entry_within [] v j h l = absurd (omega arith)
entry_within (x ∷ u) [] j h l = absurd h
entry_within (x ∷ u) (y ∷ v) zero h l = h.0
entry_within (x ∷ u) (y ∷ v) (suc j) h l = entry_within u v j h.1 (omega arith)

pub below_length : (u v : List ℤ) → u ⊑ v → length u ≡ length v
below_length [] [] h = refl
below_length [] (y ∷ v) h = absurd h
below_length (x ∷ u) [] h = absurd h
below_length (x ∷ u) (y ∷ v) h = let r = below_length u v h.1 in omega arith

within_zero : IsWithin (pos 0) (pos 0)
within_zero = record { same_sign = grind (arith, ints); no_larger = omega arith }

same_part : (x y : ℤ) → IsWithin x y → (part_at x ≡ 0) ⊎ (part_at x ≡ part_at y)
same_part (pos zero) y w = inl refl
same_part (pos (suc n)) (pos zero) w = absurd (omega (arith, ints, w.no_larger))
same_part (pos (suc n)) (pos (suc m)) w = inr refl
same_part (pos (suc n)) (negsuc m) w = absurd (not_against n m w)
same_part (negsuc n) (pos m) w = absurd (not_against_below n m w)
same_part (negsuc n) (negsuc m) w = inr refl

last_within : (u v : List ℤ) → u ⊑ v → IsWithin (last_of u) (last_of v)
last_within [] [] h = within_zero
last_within [] (y ∷ v) h = absurd h
last_within (x ∷ u) v h =
    let n = below_length (x ∷ u) v h in
    let last : length (x ∷ u) - 1 < length (x ∷ u) = omega arith in
    subst (λ m. IsWithin (last_of (x ∷ u)) (get_or v (m - 1) (pos 0))) n
    (entry_within (x ∷ u) v (length (x ∷ u) - 1) h last)

-- a row below another is in the first part, or in the other's
pub part_above : (u v : List ℤ) → u ⊑ v → (part_of u ≡ 0) ⊎ (part_of u ≡ part_of v)
part_above u v h = same_part (last_of u) (last_of v) (last_within u v h)

-- and the size of its last entry is at most the other's
pub size_above : (u v : List ℤ) → u ⊑ v → size_of u ≤ size_of v
size_above u v h = capped (nat_abs (last_of u)) (nat_abs (last_of v)) (last_within u v h).no_larger
  where
    capped : (m n : ℕ) → m ≤ n → min m 4294967295 ≤ min n 4294967295
    capped m n l = omega arith
