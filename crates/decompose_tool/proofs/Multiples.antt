-- Multiples of a vector below another: the first of them, one more, and what is left without them.
use Rattle.std.proofs.Common.{◌≡◌, ℕ, suc, ◌*◌, ◌≤◌, List, [], ◌∷◌, length, replicate, refl, ap, ap₂, arith}
use Rattle.std.specs.Prelude.{ℤ, pos, ◌+ℤ◌, ◌-ℤ◌, ◌*ℤ◌}
use Rattle.std.proofs.lemmas.Int.{ints}
use Rattle.std.proofs.Math.Nat.{mul-le-mul_right}
use borrow.Author.Differences.{up, down, same_in, product_is}
use Rattle.int_vector.specs.Operations.{add, subtract}
use Rattle.int_vector.specs.Vectors.{IsWithin, ◌⊑◌}
use Rattle.int_vector.proofs.Numbers.{within_parts, within_from_parts, parts_of_difference}
use Rattle.decompose_tool.specs.Walks.{times}

pub length-times : (c : ℕ) (u : List ℤ) → length (times c u) ≡ length u
length-times c [] = refl
length-times c (x ∷ u) = ap suc (length-times c u)

once : (x : ℤ) → pos 1 *ℤ x ≡ x
once x = grind (arith, ints)

pub times_once : (u : List ℤ) → times 1 u ≡ u
times_once [] = refl
times_once (x ∷ u) = ap₂ (λ a w. a ∷ w) (once x) (times_once u)

-- the parts of a multiple
pub up_times : (c : ℕ) (a : ℤ) → up (pos c *ℤ a) ≡ c * up a
up_times c a = omega (arith, (product_is (pos c) a).0)

pub down_times : (c : ℕ) (a : ℤ) → down (pos c *ℤ a) ≡ c * down a
down_times c a = omega (arith, (product_is (pos c) a).1)

first_entry : (c : ℕ) (a r : ℤ) → 1 ≤ c → IsWithin (pos c *ℤ a) r → IsWithin a r
first_entry c a r l h =
    let p = within_parts (pos c *ℤ a) r h in
    within_from_parts a r
    (omega (arith, p.0, up_times c a, mul-le-mul_right (up a) l), omega (arith, p.1, down_times c a, mul-le-mul_right (down a) l))

-- where a multiple fits, the vector does
pub first_below : (c : ℕ) (u rest : List ℤ) → 1 ≤ c → times c u ⊑ rest → u ⊑ rest
first_below c [] [] l h = tt
first_below c (a ∷ u) (r ∷ rest) l h = (first_entry c a r l h.0, first_below c u rest l h.1)
first_below c [] (r ∷ rest) l h = absurd h
first_below c (a ∷ u) [] l h = absurd h

more_entry : (c : ℕ) (a r : ℤ) → IsWithin (pos c *ℤ a) r → IsWithin a (r -ℤ (pos c *ℤ a)) → IsWithin (pos (suc c) *ℤ a) r
more_entry c a r h k =
    let d = parts_of_difference (pos c *ℤ a) r h in
    let p = within_parts a (r -ℤ (pos c *ℤ a)) k in
    within_from_parts (pos (suc c) *ℤ a) r
    (omega (arith, d.0, p.0, up_times c a, up_times (suc c) a), omega (arith, d.1, p.1, down_times c a, down_times (suc c) a))

-- where the vector fits below what is left, one more fits
pub more_below : (c : ℕ) (u rest : List ℤ) → times c u ⊑ rest → u ⊑ subtract rest (times c u) → times (suc c) u ⊑ rest
more_below c [] [] h k = tt
more_below c (a ∷ u) (r ∷ rest) h k = (more_entry c a r h.0 k.0, more_below c u rest h.1 k.1)
more_below c [] (r ∷ rest) h k = absurd h
more_below c (a ∷ u) [] h k = absurd h

rest_entry : (c : ℕ) (a r : ℤ) → IsWithin (pos (suc c) *ℤ a) r → IsWithin (pos c *ℤ a) (r -ℤ a)
rest_entry c a r h =
    let one : IsWithin a r = first_entry (suc c) a r (omega arith) h in
    let d = parts_of_difference a r one in
    let p = within_parts (pos (suc c) *ℤ a) r h in
    within_from_parts (pos c *ℤ a) (r -ℤ a)
    (omega (arith, d.0, p.0, up_times c a, up_times (suc c) a), omega (arith, d.1, p.1, down_times c a, down_times (suc c) a))

-- without one of them, the others fit
pub rest_below : (c : ℕ) (u rest : List ℤ) → times (suc c) u ⊑ rest → times c u ⊑ subtract rest u
rest_below c [] [] h = tt
rest_below c (a ∷ u) (r ∷ rest) h = (rest_entry c a r h.0, rest_below c u rest h.1)
rest_below c [] (r ∷ rest) h = absurd h
rest_below c (a ∷ u) [] h = absurd h

one_by_one : (c : ℕ) (a r : ℤ) → (r -ℤ a) -ℤ (pos c *ℤ a) ≡ r -ℤ (pos (suc c) *ℤ a)
one_by_one c a r = same_in ((r -ℤ a) -ℤ (pos c *ℤ a)) (r -ℤ (pos (suc c) *ℤ a)) (omega (arith, ints, up_times c a, up_times (suc c) a, down_times c a, down_times (suc c) a))

pub subtract-times : (c : ℕ) (u rest : List ℤ) → subtract (subtract rest u) (times c u) ≡ subtract rest (times (suc c) u)
subtract-times c u [] = refl
subtract-times c [] (r ∷ rest) = refl
subtract-times c (a ∷ u) (r ∷ rest) = ap₂ (λ x w. x ∷ w) (one_by_one c a r) (subtract-times c u rest)

nothing_entry : (a r : ℤ) → r -ℤ (pos 0 *ℤ a) ≡ r
nothing_entry a r = grind (arith, ints)

pub nothing_taken : (u rest : List ℤ) → length u ≡ length rest → subtract rest (times 0 u) ≡ rest
nothing_taken [] [] e = refl
nothing_taken (a ∷ u) (r ∷ rest) e = ap₂ (λ x w. x ∷ w) (nothing_entry a r) (nothing_taken u rest (omega arith))
nothing_taken [] (r ∷ rest) e = absurd (omega arith)
nothing_taken (a ∷ u) [] e = absurd (omega arith)

zero_added : (x : ℤ) → pos 0 +ℤ x ≡ x
zero_added x = omega (arith, ints)

pub zeros-add : (v : List ℤ) → add (replicate (length v) (pos 0)) v ≡ v
zeros-add [] = refl
zeros-add (x ∷ v) = ap₂ (λ a w. a ∷ w) (zero_added x) (zeros-add v)

pub length-add : (u v : List ℤ) → length u ≡ length v → length (add u v) ≡ length v
length-add [] [] e = refl
length-add (x ∷ u) (y ∷ v) e = ap suc (length-add u v (omega arith))
length-add [] (y ∷ v) e = absurd (omega arith)
length-add (x ∷ u) [] e = absurd (omega arith)
