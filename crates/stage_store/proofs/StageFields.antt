-- What a stage's fields keep, at the values that clauses see.
use Rattle.std.proofs.Common.{◌≡◌, ℕ, zero, suc, ◌+◌, ◌^◌, ◌≤◌, ◌<◌, List, [], ◌∷◌, length, get_or, refl, ap, sym, ◌∙◌, subst, subst₂, arith, inl, inr, ◌⊎◌, Bool, true, Less}
use Rattle.std.specs.Prelude.{ℤ, Option, Some, None, pos, ◌<ℤ◌, int_lt, MatchOption}
use Rattle.std.specs.List.{Contains, AllByRecursion, flat_map, sum_by}
use Rattle.std.specs.List.Sorted.{IsStrictlySortedBy}
use Rattle.lift_core.specs.Stages.{stage_norm, has_positive_last, has_negative_last, norm_cmp, last, Occurs, IsNextNorm, HasNoNextNorm}
use Rattle.int_vector.specs.Vectors.{largest, norm, lex_cmp}
use Rattle.lift_core.proofs.Lists.{contains_cases, contains_head, contains_nothing, each_contained}
use Rattle.lift_core.proofs.Orders.{in_filter, from_filter}
use Rattle.stage_store.specs.Classes.{ClassValue, AreClasses, IsClass, IsPlace, row_at, rows_at, part_size, norm_at}
use Rattle.stage_store.specs.Stage.{StageValue, IsStage, IsStageRow}
use Rattle.stage_store.specs.Least.{IsLeast, IsLeastAbove, HasPairNorm, lesser_lem}
use Rattle.stage_store.specs.Answers.{HasWaitingNorm, HasStagePair}
use Rattle.std.proofs.lemmas.List.Elements.{Contains-append_left, Contains-append_right, Contains-append_cases}
use Rattle.std.proofs.lemmas.Bool.{cases_lt, cases_Bool}
use Rattle.std.proofs.lemmas.Int.{ints}
use Rattle.std.specs.Cmp.{nat_cmp_is}
use Rattle.std.specs.Ordering.{ordering_then}
use Rattle.std.proofs.Common.{Ordering, Greater, take, drop, get_or-drop}
use Rattle.lift_core.proofs.Stages.{front-take}
use Rattle.stage_store.proofs.Classes.{each_at}
use Rattle.stage_store.proofs.Pairs.{parts_small}
use Rattle.stage_store.proofs.Least.{least_same, least_both}

-- the classes, at other names of the same values
pub classes_of : (test : List ℤ → Bool) {v w : StageValue} {xs ys : List ClassValue} → v ≡ w → ys ≡ xs → AreClasses v.listed test xs → AreClasses w.listed test ys
classes_of test e f h = subst₂ (λ (s : StageValue) (l : List ClassValue). AreClasses s.listed test l) e (sym f) h

pub stage_of : {v w : StageValue} → v ≡ w → IsStage v → IsStage w
stage_of e h = subst IsStage e h

pub parts_under : (s : StageValue) (plus minus : List ClassValue) (e : ℕ) → IsStage s → AreClasses s.listed has_positive_last plus → AreClasses s.listed has_negative_last minus → sum_by (λ c. part_size minus e c) plus < 2 ^ 63
parts_under s plus minus e h p m = omega (arith, parts_small s.listed plus minus e p m h.listed_length)

-- ---- signs
pub is_less : (x y : ℤ) → int_lt x y ≡ true → x <ℤ y
is_less x y e = omega (arith, ints)

pub less_is : (x y : ℤ) → x <ℤ y → int_lt x y ≡ true
less_is x y h = elim (cases_Bool (int_lt x y)) [
  | inl e ↦ e
  | inr e ↦ absurd (omega (arith, ints, e, h))
]

-- ---- the norms of pairs are those of classes
row_has_norm : (listed : List (List ℤ)) (n : ℕ) (ids : List ℕ) (z : List ℤ) → AllByRecursion (IsPlace listed n) ids → Contains (rows_at listed ids) z → stage_norm z ≡ n
row_has_norm listed n [] z h c = absurd (contains_nothing z c)
row_has_norm listed n (i ∷ ids) z h c = elim (contains_cases (row_at listed i) (rows_at listed ids) z c) [
  | inl same ↦ ap stage_norm (sym same) ∙ h.0.norm_is
  | inr d ↦ row_has_norm listed n ids z h.1 d
]

class_of_row : (listed : List (List ℤ)) (cs : List ClassValue) (z : List ℤ) → AllByRecursion (IsClass listed) cs → Contains (flat_map (λ c. rows_at listed c.ids) cs) z → (k : ℕ) × (k < length cs) × (norm_at cs k ≡ stage_norm z)
class_of_row listed [] z h c = absurd (contains_nothing z c)
class_of_row listed (d ∷ cs) z h c = elim (Contains-append_cases (rows_at listed d.ids) (flat_map (λ c. rows_at listed c.ids) cs) z c) [
  | inl a ↦ (0, omega arith, sym (row_has_norm listed d.norm d.ids z h.0.places a))
  | inr b ↦ let r : (k : ℕ) × (k < length cs) × (norm_at cs k ≡ stage_norm z) = class_of_row listed cs z h.1 b in (suc r.0, omega (arith, r.1), r.2)
]

first_row : (listed : List (List ℤ)) (n : ℕ) (ids : List ℕ) → 0 < length ids → AllByRecursion (IsPlace listed n) ids → (z : List ℤ) × Contains (rows_at listed ids) z × (stage_norm z ≡ n)
first_row listed n [] some h = absurd (omega arith)
first_row listed n (i ∷ ids) some h = (row_at listed i, contains_head (row_at listed i) (rows_at listed ids), h.0.norm_is)

row_of_class : (listed : List (List ℤ)) (cs : List ClassValue) (k : ℕ) → AllByRecursion (IsClass listed) cs → k < length cs → (z : List ℤ) × Contains (flat_map (λ c. rows_at listed c.ids) cs) z × (stage_norm z ≡ norm_at cs k)
row_of_class listed [] k h l = absurd (omega arith)
row_of_class listed (d ∷ cs) zero h l =
    let r : (z : List ℤ) × Contains (rows_at listed d.ids) z × (stage_norm z ≡ d.norm) = first_row listed d.norm d.ids h.0.some h.0.places in
    (r.0, Contains-append_left (rows_at listed d.ids) (flat_map (λ c. rows_at listed c.ids) cs) r.0 r.1, r.2)
row_of_class listed (d ∷ cs) (suc k) h l =
    let r : (z : List ℤ) × Contains (flat_map (λ c. rows_at listed c.ids) cs) z × (stage_norm z ≡ norm_at cs k) = row_of_class listed cs k h.1 (omega arith) in
    (r.0, Contains-append_right (rows_at listed d.ids) (flat_map (λ c. rows_at listed c.ids) cs) r.0 r.1, r.2)

-- a row that passes the test is in a class, and a class has one
passing_class : (listed : List (List ℤ)) (test : List ℤ → Bool) (cs : List ClassValue) (z : List ℤ) → AreClasses listed test cs → Contains listed z → test z ≡ true → (k : ℕ) × (k < length cs) × (norm_at cs k ≡ stage_norm z)
passing_class listed test cs z h c t = class_of_row listed cs z h.each (subst (λ l. Contains l z) (sym h.rows) (in_filter test listed z c t))

class_row : (listed : List (List ℤ)) (test : List ℤ → Bool) (cs : List ClassValue) (k : ℕ) → AreClasses listed test cs → k < length cs → (z : List ℤ) × Contains listed z × (test z ≡ true) × (stage_norm z ≡ norm_at cs k)
class_row listed test cs k h l =
    let r : (z : List ℤ) × Contains (flat_map (λ c. rows_at listed c.ids) cs) z × (stage_norm z ≡ norm_at cs k) = row_of_class listed cs k h.each l in
    let f : Contains listed r.0 × (test r.0 ≡ true) = from_filter test listed r.0 (subst (λ l. Contains l r.0) h.rows r.1) in
    (r.0, f.0, f.1, r.2)

module _ (listed : List (List ℤ)) (plus minus : List ClassValue) (p : AreClasses listed has_positive_last plus) (m : AreClasses listed has_negative_last minus) where
  pair_of_classes : (n : ℕ) → HasPairNorm plus minus (length plus) n → HasStagePair listed n
  pair_of_classes n h =
      let a : (z : List ℤ) × Contains listed z × (has_positive_last z ≡ true) × (stage_norm z ≡ norm_at plus h.one) = class_row listed has_positive_last plus h.one p h.inside_one in
      let b : (z : List ℤ) × Contains listed z × (has_negative_last z ≡ true) × (stage_norm z ≡ norm_at minus h.two) = class_row listed has_negative_last minus h.two m h.inside_two in
      (a.0, b.0, record { first_listed = a.1; second_listed = b.1; above = is_less (pos 0) (last a.0) a.2; under = is_less (last b.0) (pos 0) b.2 }, omega (arith, a.3, b.3, h.norm_is))

  classes_of_pair : (n : ℕ) → HasStagePair listed n → HasPairNorm plus minus (length plus) n
  classes_of_pair n h =
      let a : (k : ℕ) × (k < length plus) × (norm_at plus k ≡ stage_norm h.0) = passing_class listed has_positive_last plus h.0 p h.2.first_listed (less_is (pos 0) (last h.0) h.2.above) in
      let b : (k : ℕ) × (k < length minus) × (norm_at minus k ≡ stage_norm h.1) = passing_class listed has_negative_last minus h.1 m h.2.second_listed (less_is (last h.1) (pos 0) h.2.under) in
      record { one = a.0; two = b.0; before = a.1; inside_one = a.1; inside_two = b.1; norm_is = omega (arith, a.2, b.2, h.3) }

  -- the least norm of the classes' pairs is that of the rows' pairs
  pub least_of_classes : (d : ℕ) (x : Option ℕ) → IsLeastAbove (HasPairNorm plus minus (length plus)) d x → IsLeastAbove (HasStagePair listed) d x
  least_of_classes d x h = least_same (HasPairNorm plus minus (length plus)) (HasStagePair listed) d x pair_of_classes classes_of_pair h

-- the next norm of the lists
pub next_of : (listed waiting : List (List ℤ)) (d : ℕ) (x y : Option ℕ) → IsLeastAbove (HasStagePair listed) d x → IsLeastAbove (HasWaitingNorm waiting) d y → IsLeastAbove (Occurs listed waiting) d (lesser_lem x y)
next_of listed waiting d x y h k =
    least_same (λ n. HasStagePair listed n ⊎ HasWaitingNorm waiting n) (Occurs listed waiting) d (lesser_lem x y)
    (λ n o. elim o [ inl a ↦ inr a | inr b ↦ inl b ])
    (λ n o. elim o [ inl a ↦ inr a | inr b ↦ inl b ])
    (least_both (HasStagePair listed) (HasWaitingNorm waiting) d x y h k)

pub norms_within : (listed : List (List ℤ)) (test : List ℤ → Bool) (cs : List ClassValue) (d : ℕ) → AreClasses listed test cs → AllByRecursion (λ z. stage_norm z ≤ d) listed → (k : ℕ) → k < length cs → norm_at cs k ≤ d
norms_within listed test cs d h all k l =
    let r : (z : List ℤ) × Contains listed z × (test z ≡ true) × (stage_norm z ≡ norm_at cs k) = class_row listed test cs k h l in
    omega (arith, r.3, each_contained (λ z. stage_norm z ≤ d) listed r.0 all r.1)

-- from the least above d to the next norm
pub next_none : (listed waiting : List (List ℤ)) (d : ℕ) (x : Option ℕ) → x ≡ None → IsLeastAbove (Occurs listed waiting) d x → HasNoNextNorm listed waiting d
next_none listed waiting d x e h = subst (λ y. IsLeastAbove (Occurs listed waiting) d y) e h

pub next_some : (listed waiting : List (List ℤ)) (d : ℕ) (x : Option ℕ) (e : ℕ) → x ≡ Some e → IsLeastAbove (Occurs listed waiting) d x → IsNextNorm listed waiting d e
next_some listed waiting d x e is h =
    let l : IsLeast (Occurs listed waiting) d e = subst (λ y. IsLeastAbove (Occurs listed waiting) d y) is h in
    record { above = l.above; occurs = l.member; least = l.least }

-- ---- the first waiting row
pub at_front : (rows : List (List ℤ)) (n : ℕ) → get_or rows n [] ≡ get_or (drop n rows) 0 []
at_front rows n = let e : n + 0 ≡ n = omega arith in ap (λ k. get_or rows k []) (sym e) ∙ sym (get_or-drop n rows 0 [])

greater_first : (o : Ordering) → ordering_then Greater o ≡ Less → ⊥
greater_first o e = cc

pub not_more : (u v : List ℤ) → norm_cmp u v ≡ Less → stage_norm u ≤ stage_norm v
not_more u v e = elim (cases_lt (stage_norm v) (stage_norm u)) [
  | inl l ↦ absurd (greater_first (lex_cmp u v) (ap (λ o. ordering_then o (lex_cmp u v)) (nat_cmp_is (stage_norm u) (stage_norm v) Greater l) ∙ e))
  | inr l ↦ l
]

pub first_waits : (waiting : List (List ℤ)) (d : ℕ) → IsStrictlySortedBy norm_cmp waiting → AllByRecursion (λ z. d < stage_norm z) waiting → 0 < length waiting → IsLeastAbove (HasWaitingNorm waiting) d (Some (stage_norm (get_or waiting 0 [])))
unfolding IsStrictlySortedBy
first_waits [] d s h some = absurd (omega arith)
first_waits (z ∷ waiting) d s h some = record {
  above = h.0;
  member = (z, record { waits = contains_head z waiting; norm_is = refl });
  least = λ n l w. elim (contains_cases z waiting w.0 w.1.waits) [
    | inl same ↦ omega (arith, ap stage_norm same, w.1.norm_is)
    | inr c ↦ omega (arith, not_more z w.0 (each_contained (λ v. norm_cmp z v ≡ Less) waiting w.0 s.0 c), w.1.norm_is)
  ];
}

some_norm : (r : Option ℕ) (n : ℕ) → MatchOption r (largest < n) (λ m. (m ≡ n) × (m ≤ largest)) → n ≤ largest → r ≡ Some n
some_norm None n h l = absurd (omega (arith, h, l))
some_norm (Some m) n h l = ap Some h.0

pub waits_answer : (s : StageValue) (row : List ℤ) (r : Option ℕ) (w : ℕ) → IsStage s → 0 < length s.waiting → row ≡ get_or s.waiting 0 [] → length row ≡ w + 1 → MatchOption r (largest < norm (take w row)) (λ m. (m ≡ norm (take w row)) × (m ≤ largest)) → IsLeastAbove (HasWaitingNorm s.waiting) s.norm r
waits_answer s row r w h some is n answer =
    let e : stage_norm row ≡ norm (take w row) = ap norm (front-take row w n) in
    let k : norm (take w row) ≡ stage_norm (get_or s.waiting 0 []) = sym e ∙ ap stage_norm is in
    let small : norm (take w row) ≤ largest = subst (λ m. m ≤ largest) (sym k) (each_at (IsStageRow s.system.equations s.number) s.waiting 0 [] h.waiting_rows some).small in
    subst (λ (o : Option ℕ). IsLeastAbove (HasWaitingNorm s.waiting) s.norm o) (sym (some_norm r (norm (take w row)) answer small ∙ ap Some k)) (first_waits s.waiting s.norm h.waiting_ascending h.waiting_norms some)

pub next_together : (s : StageValue) (x y r : Option ℕ) → IsLeastAbove (HasStagePair s.listed) s.norm x → IsLeastAbove (HasWaitingNorm s.waiting) s.norm y → r ≡ lesser_lem x y → IsLeastAbove (Occurs s.listed s.waiting) s.norm r
next_together s x y r h k e = subst (λ (o : Option ℕ). IsLeastAbove (Occurs s.listed s.waiting) s.norm o) (sym e) (next_of s.listed s.waiting s.norm x y h k)
