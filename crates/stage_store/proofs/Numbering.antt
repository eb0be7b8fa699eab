-- Each pair of a norm has exactly one number.
use Rattle.std.proofs.Common.{◌≡◌, ℕ, zero, suc, ◌+◌, ◌<◌, List, [], ◌∷◌, ◌++◌, length, refl, ap, ap₂, sym, ◌∙◌, subst, arith, inl, inr, Bool, true, false, cond, Less}
use Rattle.std.specs.Prelude.{⊤, ℤ, map, pos, ◌<ℤ◌, ◌==◌}
use Rattle.std.specs.List.{Contains, AllByRecursion, filter, flat_map}
use Rattle.std.specs.List.Sorted.{IsStrictlySortedBy}
use Rattle.std.proofs.lemmas.Bool.{eqb-true, eq-eqb}
use Rattle.std.proofs.lemmas.List.Elements.{Contains-append_left, Contains-append_right, Contains-append_cases}
use Rattle.lift_core.specs.Stages.{stage_norm, has_positive_last, has_negative_last, norm_cmp, last, IsPair}
use Rattle.lift_core.specs.PureMachine.{AreNumbered}
use Rattle.lift_core.proofs.Lists.{contains_cases, contains_head, contains_tail, contains_nothing, not_before_itself, each_contained}
use Rattle.lift_core.proofs.Orders.{in_filter, from_filter, in_map, from_map, norm_cmp_total}
use Rattle.stage_store.specs.Classes.{pairs_of, IsPairAt, row_at}
use Rattle.stage_store.proofs.StageFields.{is_less, less_is}
use Rattle.stage_store.proofs.Classes.{get_or-default}
use Rattle.std.proofs.Common.{get_or}

module _ {X Y : Type 0} (F : X → List Y) where
  in_flat_map : (xs : List X) (x : X) (y : Y) → Contains xs x → Contains (F x) y → Contains (flat_map F xs) y
  in_flat_map [] x y c d = absurd (contains_nothing x c)
  in_flat_map (z ∷ xs) x y c d = elim (contains_cases z xs x c) [
    | inl same ↦ Contains-append_left (F z) (flat_map F xs) y (subst (λ (w : X). Contains (F w) y) (sym same) d)
    | inr e ↦ Contains-append_right (F z) (flat_map F xs) y (in_flat_map xs x y e d)
  ]

  from_flat_map : (xs : List X) (y : Y) → Contains (flat_map F xs) y → (x : X) × Contains xs x × Contains (F x) y
  from_flat_map [] y c = absurd (contains_nothing y c)
  from_flat_map (z ∷ xs) y c = elim (Contains-append_cases (F z) (flat_map F xs) y c) [
    | inl a ↦ (z, contains_head z xs, a)
    | inr b ↦ let r : (x : X) × Contains xs x × Contains (F x) y = from_flat_map xs y b in (r.0, contains_tail z xs r.0 r.1, r.2)
  ]

abbrev with : List ℤ → List ℤ → List ℤ × List ℤ
with f g = (f, g)

abbrev second_rows : List (List ℤ) → ℕ → List ℤ → List (List ℤ)
second_rows listed e f = filter (λ g. stage_norm f + stage_norm g == e) (filter has_negative_last listed)

pub numbered : (listed : List (List ℤ)) (e : ℕ) → AreNumbered listed e (pairs_of listed e)
numbered listed e f g = (
  λ c.
      let r : (x : List ℤ) × Contains (filter has_positive_last listed) x × Contains (map (with x) (second_rows listed e x)) (with f g) = from_flat_map (λ x. map (with x) (second_rows listed e x)) (filter has_positive_last listed) (with f g) c in
      let m : (y : List ℤ) × Contains (second_rows listed e r.0) y × (with f g ≡ with r.0 y) = from_map (with r.0) (second_rows listed e r.0) (with f g) r.2 in
      let p : f ≡ r.0 = ap (λ (q : List ℤ × List ℤ). q.0) m.2 in
      let q : g ≡ m.0 = ap (λ (q : List ℤ × List ℤ). q.1) m.2 in
      let a : Contains listed r.0 × (has_positive_last r.0 ≡ true) = from_filter has_positive_last listed r.0 r.1 in
      let b : Contains (filter has_negative_last listed) m.0 × ((stage_norm r.0 + stage_norm m.0 == e) ≡ true) = from_filter (λ y. stage_norm r.0 + stage_norm y == e) (filter has_negative_last listed) m.0 m.1 in
      let d : Contains listed m.0 × (has_negative_last m.0 ≡ true) = from_filter has_negative_last listed m.0 b.0 in (
        record {
          first_listed = subst (λ (z : List ℤ). Contains listed z) (sym p) a.0;
          second_listed = subst (λ (z : List ℤ). Contains listed z) (sym q) d.0;
          above = subst (λ (z : List ℤ). pos 0 <ℤ last z) (sym p) (is_less (pos 0) (last r.0) a.1);
          under = subst (λ (z : List ℤ). last z <ℤ pos 0) (sym q) (is_less (last m.0) (pos 0) d.1);
        },
        ap₂ (λ (x y : List ℤ). stage_norm x + stage_norm y) p q ∙ eqb-true (stage_norm r.0 + stage_norm m.0) e b.1,
      ),
  λ h.
      in_flat_map (λ x. map (with x) (second_rows listed e x)) (filter has_positive_last listed) f (with f g)
      (in_filter has_positive_last listed f h.0.first_listed (less_is (pos 0) (last f) h.0.above))
      (in_map (with f) (second_rows listed e f) g (in_filter (λ y. stage_norm f + stage_norm y == e) (filter has_negative_last listed) g (in_filter has_negative_last listed g h.0.second_listed (less_is (last g) (pos 0) h.0.under)) (eq-eqb (stage_norm f + stage_norm g) e h.1))),
)

-- the rows at the places of a pair's number are that pair
pub pair_placed : (listed : List (List ℤ)) (e p i j : ℕ) → p < length (pairs_of listed e) → IsPairAt listed e p i j → IsPair listed (row_at listed i) (row_at listed j) × (stage_norm (row_at listed i) + stage_norm (row_at listed j) ≡ e)
pair_placed listed e p i j l h =
    (numbered listed e (row_at listed i) (row_at listed j)).0 (p, l, get_or-default (pairs_of listed e) p (row_at listed i, row_at listed j) ([], []) l ∙ h.pair)

-- ---- no pair stands twice
-- no element is among those after it
abbrev pub AreApart : {X : Type 0} → List X → Type 0
AreApart [] = ⊤
AreApart (x ∷ xs) = (Contains xs x → ⊥) × AreApart xs

apart_filter : {X : Type 0} (test : X → Bool) (xs : List X) → AreApart xs → AreApart (filter test xs)
apart_filter test [] h = tt
apart_filter test (x ∷ xs) h = elim (test x) as (λ b. test x ≡ b → AreApart (cond b (x ∷ filter test xs) (filter test xs))) [
  | true ↦ λ e. (λ c. h.0 (from_filter test xs x c).0, apart_filter test xs h.1)
  | false ↦ λ e. apart_filter test xs h.1
] refl

apart_append : {X : Type 0} (xs ys : List X) → AreApart xs → AreApart ys → ((x : X) → Contains xs x → Contains ys x → ⊥) → AreApart (xs ++ ys)
apart_append [] ys h k d = k
apart_append (x ∷ xs) ys h k d = (
  λ c. elim (Contains-append_cases xs ys x c) [ inl a ↦ h.0 a | inr b ↦ d x (contains_head x xs) b ],
  apart_append xs ys h.1 k (λ y a b. d y (contains_tail x xs y a) b),
)

apart_with : (f : List ℤ) (gs : List (List ℤ)) → AreApart gs → AreApart (map (with f) gs)
apart_with f [] h = tt
apart_with f (g ∷ gs) h = (
  λ c. let r : (y : List ℤ) × Contains gs y × (with f g ≡ with f y) = from_map (with f) gs (with f g) c in h.0 (subst (λ (z : List ℤ). Contains gs z) (sym (ap (λ (q : List ℤ × List ℤ). q.1) r.2)) r.1),
  apart_with f gs h.1,
)

apart_pairs : (F : List ℤ → List (List ℤ)) (fs : List (List ℤ)) → AreApart fs → ((f : List ℤ) → AreApart (F f)) → AreApart (flat_map (λ f. map (with f) (F f)) fs)
apart_pairs F [] h k = tt
apart_pairs F (f ∷ fs) h k = apart_append (map (with f) (F f)) (flat_map (λ f. map (with f) (F f)) fs) (apart_with f (F f) (k f)) (apart_pairs F fs h.1 k)
    (λ p a b.
    let r : (y : List ℤ) × Contains (F f) y × (p ≡ with f y) = from_map (with f) (F f) p a in
    let s : (x : List ℤ) × Contains fs x × Contains (map (with x) (F x)) p = from_flat_map (λ f. map (with f) (F f)) fs p b in
    let t : (y : List ℤ) × Contains (F s.0) y × (p ≡ with s.0 y) = from_map (with s.0) (F s.0) p s.2 in
    h.0 (subst (λ (z : List ℤ). Contains fs z) (sym (ap (λ (q : List ℤ × List ℤ). q.0) (sym r.2 ∙ t.2))) s.1))

sorted_apart : (rows : List (List ℤ)) → IsStrictlySortedBy norm_cmp rows → AreApart rows
unfolding IsStrictlySortedBy
sorted_apart [] s = tt
sorted_apart (z ∷ rows) s = (λ c. not_before_itself norm_cmp norm_cmp_total z (each_of rows z s.0 c), sorted_apart rows s.1)
  where
    each_of : (rows : List (List ℤ)) (z : List ℤ) → AllByRecursion (λ w. norm_cmp z w ≡ Less) rows → Contains rows z → norm_cmp z z ≡ Less
    each_of rows z h c = each_contained (λ w. norm_cmp z w ≡ Less) rows z h c

pub pairs_apart : (listed : List (List ℤ)) (e : ℕ) → IsStrictlySortedBy norm_cmp listed → AreApart (pairs_of listed e)
pairs_apart listed e s = apart_pairs (second_rows listed e) (filter has_positive_last listed) (apart_filter has_positive_last listed (sorted_apart listed s))
    (λ f. apart_filter (λ g. stage_norm f + stage_norm g == e) (filter has_negative_last listed) (apart_filter has_negative_last listed (sorted_apart listed s)))

apart_places : {X : Type 0} (xs : List X) (p q : ℕ) (d : X) → AreApart xs → p < length xs → q < length xs → get_or xs p d ≡ get_or xs q d → p ≡ q
apart_places [] p q d h l m e = absurd (omega arith)
apart_places (x ∷ xs) zero zero d h l m e = refl
apart_places (x ∷ xs) zero (suc q) d h l m e = absurd (h.0 (q, omega arith, get_or-default xs q x d (omega arith) ∙ sym e))
apart_places (x ∷ xs) (suc p) zero d h l m e = absurd (h.0 (p, omega arith, get_or-default xs p x d (omega arith) ∙ e))
apart_places (x ∷ xs) (suc p) (suc q) d h l m e = ap suc (apart_places xs p q d h.1 (omega arith) (omega arith) e)

pub stand_once : (listed : List (List ℤ)) (e p q : ℕ) → IsStrictlySortedBy norm_cmp listed → p < length (pairs_of listed e) → q < length (pairs_of listed e) → get_or (pairs_of listed e) p ([], []) ≡ get_or (pairs_of listed e) q ([], []) → p ≡ q
stand_once listed e p q s l m is = apart_places (pairs_of listed e) p q ([], []) (pairs_apart listed e s) l m is
