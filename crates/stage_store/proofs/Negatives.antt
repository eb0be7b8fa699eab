-- Negatives of rows: where the negative of each listed row is listed, a pair and that of the negatives of its rows have an
-- irreducible sum together or not at all.
use Rattle.std.proofs.Common.{◌≡◌, ℕ, zero, suc, ◌+◌, ◌-◌, ◌*◌, ◌/◌, ◌%◌, ◌≤◌, ◌<◌, List, [], ◌∷◌, ◌++◌, length, length-append, get_or, refl, ap, sym, ◌∙◌, subst, subst₂, arith, inl, inr, Bool, true, false, cond}
use Rattle.std.specs.Prelude.{ℤ, pos, ◌<ℤ◌, ◌≤ℤ◌, ◌+ℤ◌, ◌*ℤ◌, neg_ℤ, nat_abs, int_lt, not, Option, Some, None, ◌==◌}
use Rattle.std.specs.List.{Contains, AllZip}
use Rattle.std.proofs.lemmas.Bool.{cases_eq, cases_lt, cases_Bool}
use Rattle.std.proofs.lemmas.Int.{ints}
use Rattle.std.proofs.lemmas.List.{length-map, get_or_default, get_or_append_left, get_or-append-add}
use Rattle.std.proofs.lemmas.List.Elements.{Contains-get_or}
use Rattle.int_vector.specs.Vectors.{◌⊑◌, negated, norm}
use Rattle.int_vector.specs.Operations.{add, AreConformal}
use Rattle.int_vector.proofs.Vectors.{conformal_swap, add_comm}
use Rattle.lift_core.specs.Systems.{LinearSystem, ObeysCaps}
use Rattle.lift_core.specs.Columns.{IsCapped}
use Rattle.lift_core.specs.Stages.{front, last, stage_norm, has_positive_last, has_negative_last}
use Rattle.stage_store.specs.Classes.{row_at}
use Rattle.stage_store.specs.Found.{IsSumOf}
use Rattle.stage_store.specs.Signs.{IsSigned}
use Rattle.stage_store.specs.Levels.{ReachesAt, MakesNone, BarsAt, BarsLine, AreTrue, is_plus}
use Rattle.stage_store.specs.Mirror.{HasNegatives, IsMirror, IsWholeMirror, IsTurnedTo, AreNegatives, AddsTurned, IsTurnedLevels, place_in, turned_place, turned_item}
use Rattle.stage_store.specs.Reaches.{entry_against, with_reach, IsReachOr}
use Rattle.stage_store.proofs.Reaches.{against_above, against_under}
use Rattle.stage_store.specs.SiftLaws.{NegativesHaveSums, NegativesMakeNone}
use Rattle.stage_store.specs.Sieve.{HasNoNewSum, HasNoNewSumBy}
use Rattle.stage_store.specs.declared.side.Side.{Side}
use Rattle.stage_store.specs.declared.side.Side.TheVariants.{Plus, Minus}

-- ---- single entries
twice : (x : ℤ) → neg_ℤ (neg_ℤ x) ≡ x
twice x = omega (arith, ints)

as_large : (x : ℤ) → nat_abs (neg_ℤ x) ≡ nat_abs x
as_large x = omega (arith, ints)

of_sum : (x y : ℤ) → (neg_ℤ x +ℤ neg_ℤ y) ≡ neg_ℤ (x +ℤ y)
of_sum x y = omega (arith, ints)

same_sign : (x y : ℤ) → pos 0 ≤ℤ (x *ℤ y) → pos 0 ≤ℤ (neg_ℤ x *ℤ neg_ℤ y)
same_sign x y h = grind (arith, ints)

-- ---- vectors
pub negated_twice : (v : List ℤ) → negated (negated v) ≡ v
negated_twice [] = refl
negated_twice (x ∷ v) = subst₂ (λ (a : ℤ) (b : List ℤ). neg_ℤ (neg_ℤ x) ∷ negated (negated v) ≡ a ∷ b) (twice x) (negated_twice v) refl

pub negated_length : (v : List ℤ) → length (negated v) ≡ length v
negated_length v = length-map v neg_ℤ

add_negated : (u v : List ℤ) → add (negated u) (negated v) ≡ negated (add u v)
add_negated [] v = refl
add_negated (x ∷ u) [] = refl
add_negated (x ∷ u) (y ∷ v) = subst₂ (λ a b. (neg_ℤ x +ℤ neg_ℤ y) ∷ add (negated u) (negated v) ≡ a ∷ b) (of_sum x y) (add_negated u v) refl

front_negated : (v : List ℤ) → front (negated v) ≡ negated (front v)
front_negated [] = refl
front_negated (x ∷ []) = refl
front_negated (x ∷ y ∷ v) = ap (λ l. neg_ℤ x ∷ l) (front_negated (y ∷ v))

last_negated : (v : List ℤ) → last (negated v) ≡ neg_ℤ (last v)
last_negated [] = refl
last_negated (x ∷ []) = refl
last_negated (x ∷ y ∷ v) = last_negated (y ∷ v)

norm_negated : (v : List ℤ) → norm (negated v) ≡ norm v
norm_negated [] = refl
norm_negated (x ∷ v) = omega (arith, as_large x, norm_negated v)

pub stage_norm_negated : (v : List ℤ) → stage_norm (negated v) ≡ stage_norm v
stage_norm_negated v = ap norm (front_negated v) ∙ norm_negated (front v)

conformal_negated : (u v : List ℤ) → AreConformal u v → AreConformal (negated u) (negated v)
conformal_negated [] [] h = tt
conformal_negated [] (y ∷ v) h = h
conformal_negated (x ∷ u) [] h = h
conformal_negated (x ∷ u) (y ∷ v) h = (same_sign x y h.0, conformal_negated u v h.1)

below_negated : (u v : List ℤ) → u ⊑ v → negated u ⊑ negated v
below_negated [] [] h = tt
below_negated [] (y ∷ v) h = h
below_negated (x ∷ u) [] h = h
below_negated (x ∷ u) (y ∷ v) h = (record { same_sign = same_sign x y h.0.same_sign; no_larger = omega (arith, as_large x, as_large y, h.0.no_larger) }, below_negated u v h.1)

capped_negated : (o : Option ℕ) (x : ℤ) → IsCapped o x → IsCapped o (neg_ℤ x)
capped_negated None x h = tt
capped_negated (Some c) x h = omega (arith, as_large x, h)

caps_negated : (caps : List (Option ℕ)) (v : List ℤ) → AllZip IsCapped caps v → AllZip IsCapped caps (negated v)
caps_negated [] [] h = tt
caps_negated [] (y ∷ v) h = h
caps_negated (o ∷ caps) [] h = h
caps_negated (o ∷ caps) (x ∷ v) h = (capped_negated o x h.0, caps_negated caps v h.1)

pub entry_negated : (v : List ℤ) (k : ℕ) → get_or (negated v) k (pos 0) ≡ neg_ℤ (get_or v k (pos 0))
entry_negated [] k = refl
entry_negated (x ∷ v) zero = refl
entry_negated (x ∷ v) (suc k) = entry_negated v k

pub under_negated : (v : List ℤ) → has_positive_last v ≡ true → has_negative_last (negated v) ≡ true
under_negated v p = ap (λ x. int_lt x (pos 0)) (last_negated v) ∙ turned (last v) p
  where
    turned : (x : ℤ) → int_lt (pos 0) x ≡ true → int_lt (neg_ℤ x) (pos 0) ≡ true
    turned x h = grind (arith, ints)

pub above_negated : (v : List ℤ) → has_negative_last v ≡ true → has_positive_last (negated v) ≡ true
above_negated v p = ap (λ x. int_lt (pos 0) x) (last_negated v) ∙ turned (last v) p
  where
    turned : (x : ℤ) → int_lt x (pos 0) ≡ true → int_lt (pos 0) (neg_ℤ x) ≡ true
    turned x h = grind (arith, ints)

-- a vector whose entries are those of another with the other sign
pub all_negated : (u v : List ℤ) → length u ≡ length v → ((k : ℕ) → k < length u → get_or u k (pos 0) ≡ neg_ℤ (get_or v k (pos 0))) → u ≡ negated v
all_negated [] [] n h = refl
all_negated [] (y ∷ v) n h = absurd (omega arith)
all_negated (x ∷ u) [] n h = absurd (omega arith)
all_negated (x ∷ u) (y ∷ v) n h = subst₂ (λ a b. x ∷ u ≡ a ∷ b) (h 0 (omega arith)) (all_negated u v (omega arith) (λ k l. h (suc k) (omega (arith, l)))) refl

-- ---- items
item_even : (k : ℕ) → k % 2 ≡ 0 → turned_item k ≡ k + 1
item_even k e = ap (λ (n : ℕ). cond (n == 0) (k + 1) (k - 1)) e

item_odd : (k : ℕ) → k % 2 ≡ 1 → turned_item k ≡ k - 1
item_odd k e = ap (λ (n : ℕ). cond (n == 0) (k + 1) (k - 1)) e

plus_even : (k : ℕ) → k % 2 ≡ 0 → is_plus k ≡ true
plus_even k e = ap (λ (n : ℕ). n == 0) e

plus_odd : (k : ℕ) → k % 2 ≡ 1 → is_plus k ≡ false
plus_odd k e = ap (λ (n : ℕ). n == 0) e

-- ---- the law of negatives
-- the pair's sum, and that of the pair the other way round
sum_turned : (S : LinearSystem) (listed : List (List ℤ)) (f g z : List ℤ) → length f ≡ length g → IsSumOf S listed f g z → IsSumOf S listed g f z
sum_turned S listed f g z n s = record {
  sum = record { conformal = conformal_swap (front f) (front g) s.sum.conformal; caps = subst (λ v. ObeysCaps S (front v)) (add_comm f g n) s.sum.caps };
  is = s.is ∙ add_comm f g n;
  irreducible = s.irreducible;
}

module _ (S : LinearSystem) (listed : List (List ℤ)) (closed : HasNegatives listed) where
  pub sum_negated : (f g z : List ℤ) → IsSumOf S listed f g z → IsSumOf S listed (negated f) (negated g) (negated z)
  sum_negated f g z s = record {
    sum = record {
      conformal = subst₂ AreConformal (sym (front_negated f)) (sym (front_negated g)) (conformal_negated (front f) (front g) s.sum.conformal);
      caps = subst (λ v. AllZip IsCapped S.caps v) (sym (ap front (add_negated f g) ∙ front_negated (add f g))) (caps_negated S.caps (front (add f g)) s.sum.caps);
    };
    is = ap negated s.is ∙ sym (add_negated f g);
    irreducible = λ u c w. s.irreducible (negated u) (closed u c) (subst (λ v. negated u ⊑ v) (negated_twice z) (below_negated u (negated z) w));
  }

  -- what makes no irreducible sum with g makes none where both are turned round
  pub none_negated : (f g : List ℤ) → ((z : List ℤ) → IsSumOf S listed f g z → ⊥) → (z : List ℤ) → IsSumOf S listed (negated f) (negated g) z → ⊥
  none_negated f g h z s = h (negated z) (subst₂ (λ a b. IsSumOf S listed a b (negated z)) (negated_twice f) (negated_twice g) (sum_negated (negated f) (negated g) z s))

  signed_negated : (positive : Bool) (x : ℤ) → IsSigned positive x → IsSigned (not positive) (neg_ℤ x)
  signed_negated true x h = by_order x h
    where
      by_order : (x : ℤ) → pos 0 <ℤ x → neg_ℤ x <ℤ pos 0
      by_order x h = grind (arith, ints)
  signed_negated false x h = by_order x h
    where
      by_order : (x : ℤ) → x <ℤ pos 0 → pos 0 <ℤ neg_ℤ x
      by_order x h = grind (arith, ints)

  reaches_negated : (g : List ℤ) (column level : ℕ) (positive : Bool) → ReachesAt g column positive level → ReachesAt (negated g) column (not positive) level
  reaches_negated g column level positive r = record {
    signed = subst (IsSigned (not positive)) (sym (entry_negated g column)) (signed_negated positive (get_or g column (pos 0)) r.signed);
    amount = omega (arith, r.amount, as_large (get_or g column (pos 0)), ap nat_abs (entry_negated g column));
  }

  pub bars_negated : (f : List ℤ) (column level : ℕ) (positive : Bool) → BarsAt S listed f column (not positive) level → BarsAt S listed (negated f) column positive level
  bars_negated f column level positive h = λ g n r.
      let m : MakesNone S listed f (negated g) = h (negated g) (negated_length g ∙ n ∙ negated_length f) (reaches_negated g column level positive r) in
      record {
        as_first = λ z s. m.as_first (negated z) (subst (λ a. IsSumOf S listed a (negated g) (negated z)) (negated_twice f) (sum_negated (negated f) g z s));
        as_second = λ z s. m.as_second (negated z) (subst (λ a. IsSumOf S listed (negated g) a (negated z)) (negated_twice f) (sum_negated g (negated f) z s));
      }

  line_negated : (f : List ℤ) (levels : List ℕ) (m k : ℕ) → AreTrue (BarsLine S listed f) true levels → k / 2 ≡ m / 8 / 2 → is_plus k ≡ not (is_plus (m / 8)) → k < length levels → get_or levels k 0 ≤ m % 8
      → BarsLine S listed (negated f) m
  line_negated f levels m k h half sign inside said =
      let item : (8 * k + m % 8) / 8 ≡ k = omega arith in
      let level : (8 * k + m % 8) % 8 ≡ m % 8 = omega arith in
      let line : BarsLine S listed f (8 * k + m % 8) = h (8 * k + m % 8) (omega (arith, inside)) (subst₂ (λ (i l : ℕ). get_or levels i 0 ≤ l) (sym item) (sym level) said) in
      let turned : BarsAt S listed f (k / 2) (is_plus k) (m % 8) = subst₂ (λ (i l : ℕ). BarsAt S listed f (i / 2) (is_plus i) l) item level line in
      bars_negated f (m / 8 / 2) (m % 8) (is_plus (m / 8)) (subst₂ (λ (c : ℕ) (p : Bool). BarsAt S listed f c p (m % 8)) half sign turned)

  pub levels_negated : (f : List ℤ) (levels turned : List ℕ) → length levels % 2 ≡ 0 → IsTurnedLevels levels turned → AreTrue (BarsLine S listed f) true levels → AreTrue (BarsLine S listed (negated f)) true turned
  levels_negated f levels turned even t h = λ m l said. elim (cases_eq (m / 8 % 2) 0) [
    | inl e ↦
        let at : get_or turned (m / 8) 0 ≡ get_or levels (m / 8 + 1) 0 = t.each (m / 8) (omega (arith, l)) ∙ ap (λ n. get_or levels n 0) (item_even (m / 8) e) in
        line_negated f levels m (m / 8 + 1) h (omega (arith, e)) (plus_odd (m / 8 + 1) (omega (arith, e)) ∙ sym (ap not (plus_even (m / 8) e))) (omega (arith, l, t.count, even, e)) (subst (λ n. n ≤ m % 8) at said)
    | inr d ↦
        let o : m / 8 % 2 ≡ 1 = omega (arith, d) in
        let at : get_or turned (m / 8) 0 ≡ get_or levels (m / 8 - 1) 0 = t.each (m / 8) (omega (arith, l)) ∙ ap (λ n. get_or levels n 0) (item_odd (m / 8) o) in
        line_negated f levels m (m / 8 - 1) h (omega (arith, o)) (plus_even (m / 8 - 1) (omega (arith, o)) ∙ sym (ap not (plus_odd (m / 8) o))) (omega (arith, l, t.count)) (subst (λ n. n ≤ m % 8) at said)
  ]

-- ---- the laws
pub sums_of_negatives : NegativesHaveSums
sums_of_negatives = λ S listed f g z closed. (
  sum_negated S listed closed f g z,
  λ s. subst (λ x. IsSumOf S listed f g x) (negated_twice z) (subst₂ (λ a b. IsSumOf S listed a b (negated (negated z))) (negated_twice f) (negated_twice g) (sum_negated S listed closed (negated f) (negated g) (negated z) s)),
)

none_of_negatives : (S : LinearSystem) (listed : List (List ℤ)) (f g : List ℤ) → HasNegatives listed → MakesNone S listed f g → MakesNone S listed (negated g) (negated f)
none_of_negatives S listed f g closed h = record {
  as_first = none_negated S listed closed g f h.as_second;
  as_second = none_negated S listed closed f g h.as_first;
}

pub negatives_make_none : NegativesMakeNone
negatives_make_none = λ S listed f g closed. (
  none_of_negatives S listed f g closed,
  λ h. subst₂ (MakesNone S listed) (negated_twice f) (negated_twice g) (none_of_negatives S listed (negated g) (negated f) closed h),
)

-- ---- the mirror
-- the negative of a listed row is listed
pub mirror_closed : (listed : List (List ℤ)) (mirror : List ℕ) → IsWholeMirror listed mirror → HasNegatives listed
mirror_closed listed mirror h = λ u c.
    let k : ℕ = c.0 in
    let l : k < length mirror = omega (arith, c.1, h.count) in
    let at : row_at listed k ≡ u = get_or_default listed k [] u c.1 ∙ c.2 in
    subst (λ v. Contains listed v) (h.mirror_is.negative k l ∙ ap negated at) (Contains-get_or listed (place_in mirror k) [] (omega (arith, h.mirror_is.inside k l, h.count)))

-- the pair of two rows has no irreducible sum, so that of their negatives has none
pub none_turned : (side : Side) (S : LinearSystem) (listed : List (List ℤ)) (mirror : List ℕ) (i j : ℕ) → IsWholeMirror listed mirror → i < length listed → j < length listed → length (row_at listed i) ≡ length (row_at listed j)
    → HasNoNewSumBy side S listed i j → HasNoNewSumBy side S listed (place_in mirror j) (place_in mirror i)
none_turned side S listed mirror i j h il jl n = by_sign side
  where
    crossed : (a b : ℕ) → a < length listed → b < length listed → length (row_at listed a) ≡ length (row_at listed b) → HasNoNewSum S listed a b → HasNoNewSum S listed (place_in mirror b) (place_in mirror a)
    crossed a b al bl m none = λ z s.
        let t : IsSumOf S listed (negated (row_at listed b)) (negated (row_at listed a)) z =
        subst₂ (λ (x y : List ℤ). IsSumOf S listed x y z) (h.mirror_is.negative b (omega (arith, bl, h.count))) (h.mirror_is.negative a (omega (arith, al, h.count))) s in
        none_negated S listed (mirror_closed listed mirror h) (row_at listed a) (row_at listed b) none z
        (sum_turned S listed (negated (row_at listed b)) (negated (row_at listed a)) z (negated_length (row_at listed b) ∙ sym m ∙ sym (negated_length (row_at listed a))) t)

    by_sign : (p : Side) → HasNoNewSumBy p S listed i j → HasNoNewSumBy p S listed (place_in mirror j) (place_in mirror i)
    by_sign Plus none = crossed i j il jl n none
    by_sign Minus none = crossed j i jl il (sym n) none

-- a reach of a row is one of its negative, whose last entry is not 0
reach_negated : (f : List ℤ) (r : ℕ) → (last f ≡ pos 0 → ⊥) → with_reach (negated f) r ≡ negated (with_reach f r)
reach_negated [] r h = refl
reach_negated (x ∷ []) r h = ap (λ e. e ∷ []) (against_negated x h)
  where
    against_negated : (x : ℤ) → (x ≡ pos 0 → ⊥) → entry_against (neg_ℤ x) r ≡ neg_ℤ (entry_against x r)
    against_negated x h = elim (cases_Bool (int_lt (pos 0) x)) [
      | inl t ↦ against_under (neg_ℤ x) r (omega (arith, ints, t)) ∙ sym (twice (pos r)) ∙ sym (ap neg_ℤ (against_above x r (omega (arith, ints, t))))
      | inr t ↦ against_above (neg_ℤ x) r (by_order x h t) ∙ sym (ap neg_ℤ (against_under x r (under x h t)))
    ]
      where
        under : (x : ℤ) → (x ≡ pos 0 → ⊥) → int_lt (pos 0) x ≡ false → x <ℤ pos 0
        under x h t = grind (arith, ints)

        by_order : (x : ℤ) → (x ≡ pos 0 → ⊥) → int_lt (pos 0) x ≡ false → pos 0 <ℤ neg_ℤ x
        by_order x h t = grind (arith, ints)
reach_negated (x ∷ y ∷ f) r h = ap (λ l. neg_ℤ x ∷ l) (reach_negated (y ∷ f) r h)

pub reach_turned : (listed : List (List ℤ)) (f : List ℤ) (r : ℕ) → HasNegatives listed → (last f ≡ pos 0 → ⊥) → IsReachOr listed f r → IsReachOr listed (negated f) r
reach_turned listed f r closed some h = λ p.
    let u = h p in
    (negated u.0, closed u.0 u.1, subst (λ v. negated u.0 ⊑ v) (sym (reach_negated f r some)) (below_negated u.0 (with_reach f r) u.2))

pub reach_at_mirror : (listed : List (List ℤ)) (mirror : List ℕ) (i r : ℕ) → IsWholeMirror listed mirror → i < length listed → (last (row_at listed i) ≡ pos 0 → ⊥) → IsReachOr listed (row_at listed (place_in mirror i)) r → IsReachOr listed (row_at listed i) r
reach_at_mirror listed mirror i r h l some known =
    let m : i < length mirror = omega (arith, l, h.count) in
    let is : row_at listed (place_in mirror i) ≡ negated (row_at listed i) = h.mirror_is.negative i m in
    let other : last (row_at listed (place_in mirror i)) ≡ neg_ℤ (last (row_at listed i)) = ap last is ∙ last_negated (row_at listed i) in
    subst (λ v. IsReachOr listed v r) (ap negated is ∙ negated_twice (row_at listed i))
    (reach_turned listed (row_at listed (place_in mirror i)) r (mirror_closed listed mirror h) (λ e. some (omega (arith, ints, e, other))) known)

pub norm_at_mirror : (listed : List (List ℤ)) (mirror : List ℕ) (k : ℕ) → IsMirror listed mirror → k < length mirror → stage_norm (row_at listed (place_in mirror k)) ≡ stage_norm (row_at listed k)
norm_at_mirror listed mirror k h l = ap stage_norm (h.negative k l) ∙ stage_norm_negated (row_at listed k)

-- the places up to m of those that come in the other order
pub record AddsTurnedTo (m from to : ℕ) (old new : List ℕ) : Type 0 where
  pub count : length new ≡ m
  pub before : (k : ℕ) → k < from → place_in new k ≡ place_in old k
  pub behind : (k : ℕ) → from ≤ k → k < m → place_in new k ≡ turned_place from to k

pub turned_more : (m from to : ℕ) (old new next : List ℕ) → from ≤ m → AddsTurnedTo m from to old new → next ≡ new ++ (turned_place from to m ∷ []) → AddsTurnedTo (m + 1) from to old next
turned_more m from to old new next l h e = record {
  count = omega (arith, ap length e, length-append new (turned_place from to m ∷ []), h.count);
  before = λ k s. at_old k (omega (arith, s, l)) ∙ h.before k s;
  behind = λ k f s. elim (cases_lt k m) [
    | inl b ↦ at_old k b ∙ h.behind k f b
    | inr n ↦
        let place : k ≡ length new + 0 = omega (arith, n, s, h.count) in
        let same : m ≡ k = omega (arith, n, s) in
        ap (λ (x : List ℕ). get_or x k 0) e ∙ ap (λ (i : ℕ). get_or (new ++ (turned_place from to m ∷ [])) i 0) place ∙ get_or-append-add new (turned_place from to m ∷ []) 0 0 ∙ ap (turned_place from to) same
  ];
}
  where
    at_old : (k : ℕ) → k < m → place_in next k ≡ place_in new k
    at_old k b = ap (λ (x : List ℕ). get_or x k 0) e ∙ get_or_append_left new (turned_place from to m ∷ []) 0 k (omega (arith, b, h.count))

-- ---- rows that come with their negatives
pub no_mirror : (listed : List (List ℤ)) (mirror : List ℕ) → mirror ≡ [] → IsMirror listed mirror
no_mirror listed mirror e = record {
  within = omega (arith, ap length e);
  inside = λ k l. absurd (omega (arith, ap length e, l));
  back = λ k l. absurd (omega (arith, ap length e, l));
  negative = λ k l. absurd (omega (arith, ap length e, l));
}

module _ (listed : List (List ℤ)) (from : ℕ) (old new : List ℕ) (h : IsMirror listed old) (n : length old ≡ from) (within : from ≤ length listed) (negatives : AreNegatives listed from) (adds : AddsTurned from (length listed) old new) where
  added_inside : (k : ℕ) → k < length new → place_in new k < length new
  added_inside k l = elim (cases_lt k from) [
    | inl s ↦ omega (arith, adds.before k s, h.inside k (omega (arith, s, n)), n, adds.count, within)
    | inr s ↦ omega (arith, adds.behind k s (omega (arith, l, adds.count)), l, s, adds.count)
  ]

  added_back : (k : ℕ) → k < length new → place_in new (place_in new k) ≡ k
  added_back k l = elim (cases_lt k from) [
    | inl s ↦
        let at : place_in new k ≡ place_in old k = adds.before k s in
        let low : place_in old k < from = omega (arith, h.inside k (omega (arith, s, n)), n) in
        ap (place_in new) at ∙ adds.before (place_in old k) low ∙ h.back k (omega (arith, s, n))
    | inr s ↦
        let at : place_in new k ≡ turned_place from (length listed) k = adds.behind k s (omega (arith, l, adds.count)) in
        let up : from ≤ turned_place from (length listed) k = omega (arith, l, adds.count, s) in
        ap (place_in new) at ∙ adds.behind (turned_place from (length listed) k) up (omega (arith, l, adds.count, s)) ∙ omega (arith, l, adds.count, s)
  ]

  added_negative : (k : ℕ) → k < length new → row_at listed (place_in new k) ≡ negated (row_at listed k)
  added_negative k l = elim (cases_lt k from) [
    | inl s ↦ ap (row_at listed) (adds.before k s) ∙ h.negative k (omega (arith, s, n))
    | inr s ↦ ap (row_at listed) (adds.behind k s (omega (arith, l, adds.count))) ∙ negatives k s (omega (arith, l, adds.count))
  ]

  pub turned_to : IsTurnedTo listed from new
  turned_to = record {
    whole = record {
      count = adds.count;
      mirror_is = record { within = omega (arith, adds.count); inside = added_inside; back = added_back; negative = added_negative };
    };
    before = λ k l. omega (arith, adds.before k l, h.inside k (omega (arith, l, n)), n);
  }
