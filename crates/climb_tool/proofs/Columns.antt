-- The first column with a fault: the steps of a loop over the columns, and what is true where there is none.
use Rattle.std.proofs.Common.{◌≡◌, ℕ, zero, suc, ◌+◌, ◌≤◌, ◌<◌, List, [], ◌∷◌, length, get_or, drop, refl, ap, ap₂, ◌∙◌, arith, Bool, true, false, None, Some}
use Rattle.std.specs.Prelude.{ℤ, pos, nat_abs, int_lt, ◌≤ℤ◌, ◌||◌, map}
use Rattle.std.specs.List.{AllByRecursion}
use Rattle.std.proofs.lemmas.Int.{ints}
use Rattle.std.proofs.lemmas.List.{drop_more}
use Rattle.climb_tool.specs.Paths.{IsWithinBounds}
use Rattle.climb_tool.specs.Problems.{is_large, is_negative, is_outside, outside_bounds, first_from}

-- ---- the first
passed : (j : ℕ) (b : Bool) (bs : List Bool) → first_from j (b ∷ bs) ≡ None → (b ≡ false) × (first_from (j + 1) bs ≡ None)
passed j true bs h = absurd (cc)
passed j false bs h = (refl, h)

taken : (j : ℕ) (b : Bool) (bs : List Bool) → b ≡ true → first_from j (b ∷ bs) ≡ Some j
taken j true bs e = refl
taken j false bs e = absurd (cc)

left : (j : ℕ) (b : Bool) (bs : List Bool) → b ≡ false → first_from j (b ∷ bs) ≡ first_from (j + 1) bs
left j true bs e = absurd (cc)
left j false bs e = refl

-- ---- the loop over one list
pub column_taken : (test : ℤ → Bool) (v : List ℤ) (i : ℕ) (d : ℤ) → i < length v → test (get_or v i d) ≡ true →
    first_from (i + 1) (map test (drop i v)) ≡ Some (i + 1)
column_taken test v i d l e = ap (λ w. first_from (i + 1) (map test w)) (drop_more v i d l) ∙ taken (i + 1) (test (get_or v i d)) (map test (drop (i + 1) v)) e

pub column_left : (test : ℤ → Bool) (v : List ℤ) (i : ℕ) (d : ℤ) → i < length v → test (get_or v i d) ≡ false →
    first_from (i + 1) (map test (drop i v)) ≡ first_from (i + 1 + 1) (map test (drop (i + 1) v))
column_left test v i d l e = ap (λ w. first_from (i + 1) (map test w)) (drop_more v i d l) ∙ left (i + 1) (test (get_or v i d)) (map test (drop (i + 1) v)) e

nothing_behind : (v : List ℤ) (i : ℕ) → length v ≤ i → drop i v ≡ []
nothing_behind [] zero h = refl
nothing_behind [] (suc i) h = refl
nothing_behind (x ∷ v) zero h = absurd (omega arith)
nothing_behind (x ∷ v) (suc i) h = nothing_behind v i (omega arith)

pub column_end : (test : ℤ → Bool) (v : List ℤ) (i : ℕ) → length v ≤ i → first_from (i + 1) (map test (drop i v)) ≡ None
column_end test v i h = ap (λ w. first_from (i + 1) (map test w)) (nothing_behind v i h)

-- ---- and over two
pub pair_taken : (upper x : List ℤ) (i : ℕ) (d : ℤ) → i < length upper → length x ≡ length upper → is_outside (get_or upper i d) (get_or x i d) ≡ true →
    first_from (i + 1) (outside_bounds (drop i upper) (drop i x)) ≡ Some (i + 1)
pair_taken upper x i d l m e =
    ap₂ (λ v w. first_from (i + 1) (outside_bounds v w)) (drop_more upper i d l) (drop_more x i d (omega (arith, l, m)))
    ∙ taken (i + 1) (is_outside (get_or upper i d) (get_or x i d)) (outside_bounds (drop (i + 1) upper) (drop (i + 1) x)) e

pub pair_left : (upper x : List ℤ) (i : ℕ) (d : ℤ) → i < length upper → length x ≡ length upper → is_outside (get_or upper i d) (get_or x i d) ≡ false →
    first_from (i + 1) (outside_bounds (drop i upper) (drop i x)) ≡ first_from (i + 1 + 1) (outside_bounds (drop (i + 1) upper) (drop (i + 1) x))
pair_left upper x i d l m e =
    ap₂ (λ v w. first_from (i + 1) (outside_bounds v w)) (drop_more upper i d l) (drop_more x i d (omega (arith, l, m)))
    ∙ left (i + 1) (is_outside (get_or upper i d) (get_or x i d)) (outside_bounds (drop (i + 1) upper) (drop (i + 1) x)) e

pub pair_end : (upper x : List ℤ) (i : ℕ) → length upper ≤ i → first_from (i + 1) (outside_bounds (drop i upper) (drop i x)) ≡ None
pair_end upper x i h = ap (λ v. first_from (i + 1) (outside_bounds v (drop i x))) (nothing_behind upper i h)

-- ---- tests
pub large_true : (c : ℤ) → 72057594037927936 < nat_abs c → is_large c ≡ true
large_true c h = grind (arith, h)

pub large_false : (c : ℤ) → nat_abs c ≤ 72057594037927936 → is_large c ≡ false
large_false c h = grind (arith, h)

not_large : (c : ℤ) → is_large c ≡ false → nat_abs c ≤ 72057594037927936
not_large c h = grind (arith, h)

neither : (p q : Bool) → (p || q) ≡ false → (p ≡ false) × (q ≡ false)
neither true q e = absurd (cc)
neither false q e = (refl, e)

not_less : (a b : ℤ) → int_lt a b ≡ false → b ≤ℤ a
not_less a b h = grind (arith, ints, h)

entry_inside : (u a : ℤ) → is_outside u a ≡ false → (pos 0 ≤ℤ a) × (a ≤ℤ u)
entry_inside u a e = let p = neither (is_negative a) (int_lt u a) e in (not_less a (pos 0) p.0, not_less u a p.1)

-- ---- where there is none
pub none_large : (j : ℕ) (cost : List ℤ) → first_from j (map is_large cost) ≡ None → AllByRecursion (λ c. nat_abs c ≤ 72057594037927936) cost
none_large j [] h = tt
none_large j (c ∷ cost) h = let p = passed j (is_large c) (map is_large cost) h in (not_large c p.0, none_large (j + 1) cost p.1)

pub none_outside : (j : ℕ) (upper x : List ℤ) → length x ≡ length upper → first_from j (outside_bounds upper x) ≡ None → IsWithinBounds upper x
none_outside j [] [] l h = tt
none_outside j [] (a ∷ x) l h = absurd (omega arith)
none_outside j (u ∷ upper) [] l h = absurd (omega arith)
none_outside j (u ∷ upper) (a ∷ x) l h =
    let p = passed j (is_outside u a) (outside_bounds upper x) h in (entry_inside u a p.0, none_outside (j + 1) upper x (omega arith) p.1)
