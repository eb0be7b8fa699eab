-- How often a vector fits below another: entry by entry, and the least of all entries.
use Rattle.std.proofs.Common.{◌≡◌, ℕ, zero, suc, ◌+◌, ◌*◌, ◌/◌, ◌<◌, ◌≤◌, List, [], ◌∷◌, length, get_or, drop, min, refl, ap, arith, false, ◌⊎◌}
use Rattle.std.specs.Prelude.{ℤ, pos, negsuc, nat_abs, ◌*ℤ◌, ◌<ℤ◌, ◌↔◌}
use Rattle.std.specs.List.{AllByRecursion}
use Rattle.std.proofs.lemmas.Int.{ints}
use Rattle.std.proofs.lemmas.List.{drop_more}
use Rattle.std.proofs.Math.Nat.{le-div_iff_mul-le}
use borrow.Author.Differences.{up, down}
use Rattle.int_vector.specs.Range.{InRange}
use Rattle.int_vector.specs.Vectors.{IsWithin, ◌⊑◌, largest}
use Rattle.int_vector.proofs.Numbers.{within_parts, within_from_parts, nat_abs-parts}
use Rattle.decompose_tool.specs.Rows.{is_zero}
use Rattle.decompose_tool.specs.Walks.{times, IsMost}
use Rattle.decompose_tool.proofs.Multiples.{up_times, down_times}

-- ---- one entry
zero_within : (c : ℕ) (a r : ℤ) → a ≡ pos 0 → IsWithin (pos c *ℤ a) r
zero_within c a r e = within_from_parts (pos c *ℤ a) r (omega (arith, up_times c a, ap (λ z. c * up z) e), omega (arith, down_times c a, ap (λ z. c * down z) e))

pub always : (c : ℕ) (a r : ℤ) → a ≡ pos 0 → c ≤ largest → IsWithin (pos c *ℤ a) r ↔ (c ≤ largest)
always c a r e l = (λ h. l, λ h. zero_within c a r e)

never_up : (c : ℕ) (n m : ℕ) → IsWithin (pos c *ℤ pos (suc n)) (negsuc m) → c ≤ 0
never_up c n m h =
    let p = within_parts (pos c *ℤ pos (suc n)) (negsuc m) h in
    omega (arith, p.0, up_times c (pos (suc n)))

never_down : (c : ℕ) (n m : ℕ) → IsWithin (pos c *ℤ negsuc n) (pos (suc m)) → c ≤ 0
never_down c n m h =
    let p = within_parts (pos c *ℤ negsuc n) (pos (suc m)) h in
    omega (arith, p.1, down_times c (negsuc n))

none_within : (c : ℕ) (a r : ℤ) → c ≤ 0 → IsWithin (pos c *ℤ a) r
none_within c a r l =
    let e : c ≡ 0 = omega arith in
    within_from_parts (pos c *ℤ a) r (omega (arith, up_times c a, ap (λ k. k * up a) e), omega (arith, down_times c a, ap (λ k. k * down a) e))

pub never : (c : ℕ) (a r : ℤ) → ((pos 0 <ℤ a) × (r <ℤ pos 0)) ⊎ ((a <ℤ pos 0) × (pos 0 <ℤ r)) → IsWithin (pos c *ℤ a) r ↔ (c ≤ 0)
never c (pos (suc n)) (negsuc m) h = (never_up c n m, none_within c (pos (suc n)) (negsuc m))
never c (negsuc n) (pos (suc m)) h = (never_down c n m, none_within c (negsuc n) (pos (suc m)))
never c (pos zero) r h = absurd (grind (arith, ints, h))
never c (pos (suc n)) (pos m) h = absurd (grind (arith, ints, h))
never c (negsuc n) (pos zero) h = absurd (grind (arith, ints, h))
never c (negsuc n) (negsuc m) h = absurd (grind (arith, ints, h))

quotient_up : (c n m : ℕ) → IsWithin (pos c *ℤ pos (suc n)) (pos m) ↔ (c ≤ m / suc n)
quotient_up c n m =
    let q : (c ≤ m / suc n) ↔ (c * suc n ≤ m) = le-div_iff_mul-le (omega arith) in (
      λ h. let p = within_parts (pos c *ℤ pos (suc n)) (pos m) h in q.1 (omega (arith, p.0, up_times c (pos (suc n)))),
      λ h. within_from_parts (pos c *ℤ pos (suc n)) (pos m) (omega (arith, q.0 h, up_times c (pos (suc n))), omega (arith, down_times c (pos (suc n)))),
    )

quotient_down : (c n m : ℕ) → IsWithin (pos c *ℤ negsuc n) (negsuc m) ↔ (c ≤ suc m / suc n)
quotient_down c n m =
    let q : (c ≤ suc m / suc n) ↔ (c * suc n ≤ suc m) = le-div_iff_mul-le (omega arith) in (
      λ h. let p = within_parts (pos c *ℤ negsuc n) (negsuc m) h in q.1 (omega (arith, p.1, down_times c (negsuc n))),
      λ h. within_from_parts (pos c *ℤ negsuc n) (negsuc m) (omega (arith, up_times c (negsuc n)), omega (arith, q.0 h, down_times c (negsuc n))),
    )

quotient_zero : (c n : ℕ) → IsWithin (pos c *ℤ negsuc n) (pos 0) ↔ (c ≤ 0 / suc n)
quotient_zero c n =
    let q : (c ≤ 0 / suc n) ↔ (c * suc n ≤ 0) = le-div_iff_mul-le (omega arith) in (
      λ h. let p = within_parts (pos c *ℤ negsuc n) (pos 0) h in q.1 (omega (arith, p.1, down_times c (negsuc n))),
      λ h. within_from_parts (pos c *ℤ negsuc n) (pos 0) (omega (arith, up_times c (negsuc n)), omega (arith, q.0 h, down_times c (negsuc n))),
    )

pub quotient : (c : ℕ) (a r : ℤ) → (a ≡ pos 0 → ⊥) → ((pos 0 <ℤ a) × (r <ℤ pos 0) → ⊥) → ((a <ℤ pos 0) × (pos 0 <ℤ r) → ⊥) → IsWithin (pos c *ℤ a) r ↔ (c ≤ nat_abs r / nat_abs a)
quotient c (pos zero) r nonzero first second = absurd (nonzero refl)
quotient c (pos (suc n)) (pos m) nonzero first second = quotient_up c n m
quotient c (pos (suc n)) (negsuc m) nonzero first second = absurd (first (grind (arith, ints), grind (arith, ints)))
quotient c (negsuc n) (pos zero) nonzero first second = quotient_zero c n
quotient c (negsuc n) (pos (suc m)) nonzero first second = absurd (second (grind (arith, ints), grind (arith, ints)))
quotient c (negsuc n) (negsuc m) nonzero first second = quotient_down c n m

-- ---- the entries, one after another
-- the first j entries bound the count by most, and the others decide the rest
abbrev pub Bounds : List ℤ → List ℤ → ℕ → ℕ → Type 0
Bounds u rest j most = (c : ℕ) → c ≤ largest → (times c u ⊑ rest) ↔ ((c ≤ most) × (times c (drop j u) ⊑ drop j rest))

split_below : (c : ℕ) (a r : ℤ) (u rest u' rest' : List ℤ) → u ≡ a ∷ u' → rest ≡ r ∷ rest' → (times c u ⊑ rest) ↔ (IsWithin (pos c *ℤ a) r × (times c u' ⊑ rest'))
split_below c a r u rest u' rest' e f = rw (e, f) (λ h. h, λ h. h)

pub bounds_more : (u rest : List ℤ) (j most m : ℕ) → j < length u → length u ≡ length rest →
    ((c : ℕ) → c ≤ largest → IsWithin (pos c *ℤ get_or u j (pos 0)) (get_or rest j (pos 0)) ↔ (c ≤ m)) → Bounds u rest j most → Bounds u rest (j + 1) (min most m)
bounds_more u rest j most m l e entry h = λ c small.
    let a = get_or u j (pos 0) in
    let r = get_or rest j (pos 0) in
    let s = split_below c a r (drop j u) (drop j rest) (drop (j + 1) u) (drop (j + 1) rest) (drop_more u j (pos 0) l) (drop_more rest j (pos 0) (omega arith)) in
    let k = h c small in
    let n = entry c small in (
      λ b. let p = k.0 b in let q = s.0 p.1 in let t : c ≤ m = n.0 q.0 in let w : c ≤ most = p.0 in (omega arith, q.1),
      λ p. k.1 (let w : c ≤ min most m = p.0 in omega arith, s.1 (n.1 (let w : c ≤ min most m = p.0 in omega arith), p.1)),
    )

pub bounds_start : (u rest : List ℤ) → Bounds u rest 0 largest
bounds_start u rest = λ c l. (λ h. (l, h), λ h. h.1)

-- ---- all entries
entry_bounded : (c n : ℕ) (r : ℤ) → InRange r → IsWithin (pos c *ℤ pos (suc n)) r → c ≤ largest
entry_bounded c n r s h =
    let p = within_parts (pos c *ℤ pos (suc n)) r h in
    let l : c ≤ c * suc n = omega arith in
    omega (arith, p.0, up_times c (pos (suc n)), nat_abs-parts r, s, l)

entry_bounded_down : (c n : ℕ) (r : ℤ) → InRange r → IsWithin (pos c *ℤ negsuc n) r → c ≤ largest
entry_bounded_down c n r s h =
    let p = within_parts (pos c *ℤ negsuc n) r h in
    let l : c ≤ c * suc n = omega arith in
    omega (arith, p.1, down_times c (negsuc n), nat_abs-parts r, s, l)

bounded : (c : ℕ) (u rest : List ℤ) → is_zero u ≡ false → AllByRecursion InRange rest → times c u ⊑ rest → c ≤ largest
bounded c [] rest z s h = absurd (cc)
bounded c (a ∷ u) [] z s h = absurd h
bounded c (pos zero ∷ u) (r ∷ rest) z s h = bounded c u rest z s.1 h.1
bounded c (pos (suc n) ∷ u) (r ∷ rest) z s h = entry_bounded c n r s.0 h.0
bounded c (negsuc n ∷ u) (r ∷ rest) z s h = entry_bounded_down c n r s.0 h.0

nothing_more : (c j : ℕ) (u rest : List ℤ) → length u ≤ j → length u ≡ length rest → times c (drop j u) ⊑ drop j rest
nothing_more c zero [] [] l e = tt
nothing_more c (suc j) [] [] l e = tt
nothing_more c j [] (r ∷ rest) l e = absurd (omega arith)
nothing_more c j (a ∷ u) [] l e = absurd (omega arith)
nothing_more c zero (a ∷ u) (r ∷ rest) l e = absurd (omega arith)
nothing_more c (suc j) (a ∷ u) (r ∷ rest) l e = nothing_more c j u rest (omega arith) (omega arith)

pub bounds_most : (u rest : List ℤ) (j most : ℕ) → length u ≤ j → length u ≡ length rest → is_zero u ≡ false → AllByRecursion InRange rest → most ≤ largest → Bounds u rest j most → IsMost u rest most
bounds_most u rest j most l e z s small h = record {
  below = (h most small).1 (omega arith, nothing_more most j u rest l e);
  most = λ d b. ((h d (bounded d u rest z s b)).0 b).0;
}
