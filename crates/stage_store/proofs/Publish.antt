-- What a closed norm makes of the lists and of the classes.
use Rattle.std.proofs.Common.{◌≡◌, ℕ, zero, suc, ◌+◌, ◌≤◌, ◌<◌, List, [], ◌∷◌, ◌++◌, length, get_or, take, drop, refl, ap, ap₂, sym, ◌∙◌, subst, arith, inl, inr, Bool, true, cond, eqb, Ordering, Less, Equal, length-append}
use Rattle.std.specs.Prelude.{ℤ, not, ◌==◌}
use Rattle.std.specs.List.{Contains, AllByRecursion, filter, flat_map}
use Rattle.std.specs.List.Sorted.{IsStrictlySortedBy}
use Rattle.std.specs.Cmp.{nat_cmp_is}
use Rattle.std.specs.Ordering.{ordering_then, is_lt}
use Rattle.lift_core.proofs.Orders.{from_filter}
use Rattle.std.proofs.lemmas.Bool.{cases_Bool, eqb-true, eq-eqb}
use Rattle.std.proofs.lemmas.List.{get_or_append_left, append-nil}
use Rattle.std.proofs.lemmas.List.Elements.{Contains-append_left, Contains-append_right, Contains-append_cases, filter-append}
use Rattle.std.proofs.lemmas.Grind.{flat_map-append}
use Rattle.lift_core.specs.Systems.{LinearSystem}
use Rattle.lift_core.specs.Lists.{IsListOf}
use Rattle.lift_core.specs.Stages.{stage_norm, norm_cmp, IsWaitingAt}
use Rattle.int_vector.specs.Vectors.{lex_cmp}
use Rattle.lift_core.specs.PairSums.{IsNewSum}
use Rattle.lift_core.specs.Walks.{IsGrown, still_waiting}
use Rattle.lift_core.proofs.Lists.{contains_cases, contains_head, contains_tail, contains_nothing, each_contained, each_from_contained}
use Rattle.lift_core.proofs.Orders.{norm_cmp_total, norm_same}
use Rattle.stage_store.specs.Classes.{ClassValue, class_cmp, IsPlace, IsClass, AreClasses, row_at, rows_at, places, with_class}
use Rattle.stage_store.specs.Merge.{merged}
use Rattle.stage_store.proofs.Merge.{from_merged, first_in_merged, second_in_merged, merged_ascends, ascending_append}

-- ---- the grown list
norm_less : (u v : List ℤ) → stage_norm u < stage_norm v → norm_cmp u v ≡ Less
norm_less u v l = ap (λ (o : Ordering). ordering_then o (lex_cmp u v)) (sym (nat_cmp_is (stage_norm u) (stage_norm v) Less l))

-- of rows of one norm the order is that of the entries
pub one_norm_order : (u v : List ℤ) → stage_norm u ≡ stage_norm v → norm_cmp u v ≡ lex_cmp u v
one_norm_order u v e = ap (λ (o : Ordering). ordering_then o (lex_cmp u v)) (sym (nat_cmp_is (stage_norm u) (stage_norm v) Equal e))

pub grown : (S : LinearSystem) (listed waiting waits sums : List (List ℤ)) (d e : ℕ) → d < e
    → IsStrictlySortedBy norm_cmp listed → AllByRecursion (λ z. stage_norm z ≤ d) listed
    → IsListOf norm_cmp (IsWaitingAt waiting e) waits → IsListOf norm_cmp (IsNewSum S listed e) sums → ((z : List ℤ) → IsNewSum S listed e z → stage_norm z ≡ e)
    → IsGrown S listed waiting e (listed ++ merged norm_cmp waits sums)
grown S listed waiting waits sums d e above order small w n norms =
    let new : List (List ℤ) = merged norm_cmp waits sums in
    let norm_of_new : (z : List ℤ) → Contains (merged norm_cmp waits sums) z → stage_norm z ≡ e = λ z c. elim (from_merged norm_cmp norm_cmp_total norm_same waits sums z c) [
      | inl a ↦ ((w.members z).0 a).norm_is
      | inr b ↦ norms z ((n.members z).0 b)
    ] in
    record {
      ascending = ascending_append norm_cmp norm_cmp_total norm_same listed (merged norm_cmp waits sums) order (merged_ascends norm_cmp norm_cmp_total norm_same waits sums w.ascending n.ascending)
          (λ x y a b. norm_less x y (omega (arith, each_contained (λ z. stage_norm z ≤ d) listed x small a, norm_of_new y b, above)));
      members = λ z. (
        λ c. elim (Contains-append_cases listed (merged norm_cmp waits sums) z c) [
          | inl a ↦ inl a
          | inr b ↦ elim (from_merged norm_cmp norm_cmp_total norm_same waits sums z b) [
            | inl p ↦ inr (inl ((w.members z).0 p))
            | inr q ↦ inr (inr ((n.members z).0 q))
          ]
        ],
        λ c. elim c [
          | inl a ↦ Contains-append_left listed (merged norm_cmp waits sums) z a
          | inr (inl p) ↦ Contains-append_right listed (merged norm_cmp waits sums) z (first_in_merged norm_cmp norm_cmp_total norm_same waits sums z ((w.members z).1 p))
          | inr (inr q) ↦ Contains-append_right listed (merged norm_cmp waits sums) z (second_in_merged norm_cmp norm_cmp_total norm_same waits sums z ((n.members z).1 q))
        ],
      );
    }

-- ---- the rows that still wait
filter_all : (test : List ℤ → Bool) (xs : List (List ℤ)) → ((z : List ℤ) → Contains xs z → test z ≡ true) → filter test xs ≡ xs
filter_all test [] h = refl
filter_all test (x ∷ xs) h = let e : test x ≡ true = h x (contains_head x xs) in rw e (ap (λ l. x ∷ l) (filter_all test xs (λ z c. h z (contains_tail x xs z c))))

not_eqb : (a b : ℕ) → b < a → not (eqb a b) ≡ true
not_eqb a b l = elim (cases_Bool (eqb a b)) [
  | inl t ↦ absurd (omega (arith, eqb-true a b t, l))
  | inr f ↦ rw f refl
]

-- the first n have norm e, and the others a greater one
pub still : (waiting : List (List ℤ)) (e n : ℕ) → ((z : List ℤ) → Contains (take n waiting) z → stage_norm z ≡ e) → ((z : List ℤ) → Contains (drop n waiting) z → e < stage_norm z) → still_waiting e waiting ≡ drop n waiting
still waiting e zero h k = filter_all (λ z. not (stage_norm z == e)) waiting (λ z c. not_eqb (stage_norm z) e (k z c))
still [] e (suc n) h k = refl
still (x ∷ waiting) e (suc n) h k =
    let t : eqb (stage_norm x) e ≡ true = eq-eqb (stage_norm x) e (h x (contains_head x (take n waiting))) in
    rw t (still waiting e n (λ z c. h z (contains_tail x (take n waiting) z c)) k)

-- ---- the new class
pub kept_row : (listed new : List (List ℤ)) (i : ℕ) → i < length listed → row_at (listed ++ new) i ≡ row_at listed i
kept_row listed new i l = get_or_append_left listed new [] i l

kept_rows : (listed new : List (List ℤ)) (n : ℕ) (ids : List ℕ) → AllByRecursion (IsPlace listed n) ids → rows_at (listed ++ new) ids ≡ rows_at listed ids
kept_rows listed new n [] h = refl
kept_rows listed new n (i ∷ ids) h = ap₂ (λ (x : List ℤ) (xs : List (List ℤ)). x ∷ xs) (kept_row listed new i h.0.inside) (kept_rows listed new n ids h.1)

kept_places : (listed new : List (List ℤ)) (n : ℕ) (ids : List ℕ) → AllByRecursion (IsPlace listed n) ids → AllByRecursion (IsPlace (listed ++ new) n) ids
kept_places listed new n [] h = tt
kept_places listed new n (i ∷ ids) h = (record { inside = omega (arith, h.0.inside, length-append listed new); norm_is = ap stage_norm (kept_row listed new i h.0.inside) ∙ h.0.norm_is }, kept_places listed new n ids h.1)

kept_class : (listed new : List (List ℤ)) (c : ClassValue) → IsClass listed c → IsClass (listed ++ new) c
kept_class listed new c h = record { positive = h.positive; some = h.some; places = kept_places listed new c.norm c.ids h.places }

kept_classes : (listed new : List (List ℤ)) (cs : List ClassValue) → AllByRecursion (IsClass listed) cs → AllByRecursion (IsClass (listed ++ new)) cs
kept_classes listed new [] h = tt
kept_classes listed new (c ∷ cs) h = (kept_class listed new c h.0, kept_classes listed new cs h.1)

kept_all : (listed new : List (List ℤ)) (cs : List ClassValue) → AllByRecursion (IsClass listed) cs → flat_map (λ c. rows_at (listed ++ new) c.ids) cs ≡ flat_map (λ c. rows_at listed c.ids) cs
kept_all listed new [] h = refl
kept_all listed new (c ∷ cs) h = ap₂ (λ (xs ys : List (List ℤ)). xs ++ ys) (kept_rows listed new c.norm c.ids h.0.places) (kept_all listed new cs h.1)

-- ---- the places of the new rows
from_drop : (all : List (List ℤ)) (i : ℕ) (z : List ℤ) (rest : List (List ℤ)) → drop i all ≡ z ∷ rest → (i < length all) × (row_at all i ≡ z) × (drop (i + 1) all ≡ rest)
from_drop [] zero z rest e = cc
from_drop [] (suc i) z rest e = cc
from_drop (x ∷ all) zero z rest e = (omega arith, ap (λ l. get_or l 0 []) e, ap (drop 1) e)
from_drop (x ∷ all) (suc i) z rest e =
    let r : (i < length all) × (row_at all i ≡ z) × (drop (i + 1) all ≡ rest) = from_drop all i z rest e in
    let n : suc i + 1 ≡ suc (i + 1) = omega arith in
    (omega (arith, r.0), r.1, rw n r.2)

pub places_rows : (test : List ℤ → Bool) (all : List (List ℤ)) (i : ℕ) (new : List (List ℤ)) → drop i all ≡ new → rows_at all (places test i new) ≡ filter test new
places_rows test all i [] e = refl
places_rows test all i (z ∷ new) e =
    let r : (i < length all) × (row_at all i ≡ z) × (drop (i + 1) all ≡ new) = from_drop all i z new e in
    elim (cases_Bool (test z)) [
      | inl t ↦ rw t (ap₂ (λ (x : List ℤ) (xs : List (List ℤ)). x ∷ xs) r.1 (places_rows test all (i + 1) new r.2))
      | inr t ↦ rw t (places_rows test all (i + 1) new r.2)
    ]

pub places_are : (test : List ℤ → Bool) (all : List (List ℤ)) (i n : ℕ) (new : List (List ℤ)) → drop i all ≡ new → AllByRecursion (λ z. stage_norm z ≡ n) new → AllByRecursion (IsPlace all n) (places test i new)
places_are test all i n [] e h = tt
places_are test all i n (z ∷ new) e h =
    let r : (i < length all) × (row_at all i ≡ z) × (drop (i + 1) all ≡ new) = from_drop all i z new e in
    elim (cases_Bool (test z)) [
      | inl t ↦ rw t (record { inside = r.0; norm_is = ap stage_norm r.1 ∙ h.0 }, places_are test all (i + 1) n new r.2 h.1)
      | inr t ↦ rw t (places_are test all (i + 1) n new r.2 h.1)
    ]

drop_append : (xs ys : List (List ℤ)) → drop (length xs) (xs ++ ys) ≡ ys
drop_append [] ys = refl
drop_append (x ∷ xs) ys = drop_append xs ys

class_less : (b c : ClassValue) → b.norm < c.norm → class_cmp b c ≡ Less
class_less b c l = sym (nat_cmp_is b.norm c.norm Less l)

classes_append : (cs : List ClassValue) (c : ClassValue) → IsStrictlySortedBy class_cmp cs → ((b : ClassValue) → Contains cs b → b.norm < c.norm) → IsStrictlySortedBy class_cmp (cs ++ (c ∷ []))
unfolding IsStrictlySortedBy
classes_append [] c s h = (tt, tt)
classes_append (b ∷ cs) c s h = (
  each_from_contained (λ z. class_cmp b z ≡ Less) (cs ++ (c ∷ [])) (λ z d. elim (Contains-append_cases cs (c ∷ []) z d) [
    | inl a ↦ each_contained (λ z. class_cmp b z ≡ Less) cs z s.0 a
    | inr l ↦ elim (contains_cases c [] z l) [
      | inl same ↦ subst (λ (w : ClassValue). class_cmp b w ≡ Less) same (class_less b c (h b (contains_head b cs)))
      | inr none ↦ absurd (contains_nothing z none)
    ]
  ]),
  classes_append cs c s.1 (λ z d. h z (contains_tail b cs z d)),
)

pub each_snoc : {A : Type 0} (P : A → Type 0) (xs : List A) (y : A) → AllByRecursion P xs → P y → AllByRecursion P (xs ++ (y ∷ []))
each_snoc P [] y h p = (p, tt)
each_snoc P (x ∷ xs) y h p = (h.0, each_snoc P xs y h.1 p)

-- a new norm's rows make one class more, or none
pub more_classes : (listed new : List (List ℤ)) (test : List ℤ → Bool) (cs : List ClassValue) (e : ℕ) → 0 < e → AreClasses listed test cs → ((b : ClassValue) → Contains cs b → b.norm < e) → AllByRecursion (λ z. stage_norm z ≡ e) new
    → AreClasses (listed ++ new) test (with_class e (places test (length listed) new) cs)
more_classes listed new test cs e positive h smaller norms =
    go (places test (length listed) new) (places_rows test (listed ++ new) (length listed) new (drop_append listed new)) (places_are test (listed ++ new) (length listed) e new (drop_append listed new) norms)
  where
    go : (ids : List ℕ) → rows_at (listed ++ new) ids ≡ filter test new → AllByRecursion (IsPlace (listed ++ new) e) ids → AreClasses (listed ++ new) test (with_class e ids cs)
    go [] r p = record {
      each = kept_classes listed new cs h.each;
      ascending = h.ascending;
      rows = kept_all listed new cs h.each ∙ h.rows ∙ sym (append-nil (filter test listed)) ∙ ap (λ (l : List (List ℤ)). filter test listed ++ l) r ∙ sym (filter-append test listed new);
    }
    go (i ∷ ids) r p = record {
      each = each_snoc (IsClass (listed ++ new)) cs (record { norm = e; ids = i ∷ ids }) (kept_classes listed new cs h.each) (record { positive = positive; some = omega arith; places = p });
      ascending = classes_append cs (record { norm = e; ids = i ∷ ids }) h.ascending smaller;
      rows =
          flat_map-append (λ c. rows_at (listed ++ new) c.ids) cs (record { norm = e; ids = i ∷ ids } ∷ [])
          ∙ ap₂ (λ (xs ys : List (List ℤ)). xs ++ ys) (kept_all listed new cs h.each ∙ h.rows) (append-nil (rows_at (listed ++ new) (i ∷ ids)) ∙ r)
          ∙ sym (filter-append test listed new);
    }

-- ---- merged by entries, where all norms are the same
filter_same : (p q : List ℤ → Bool) (xs : List (List ℤ)) → ((z : List ℤ) → Contains xs z → p z ≡ q z) → filter p xs ≡ filter q xs
filter_same p q [] h = refl
filter_same p q (x ∷ xs) h = ap₂ (λ (b : Bool) (l : List (List ℤ)). cond b (x ∷ l) l) (h x (contains_head x xs)) (filter_same p q xs (λ z c. h z (contains_tail x xs z c)))

pub merged_by_entries : (xs ys : List (List ℤ)) (e : ℕ) → ((z : List ℤ) → Contains xs z → stage_norm z ≡ e) → ((z : List ℤ) → Contains ys z → stage_norm z ≡ e) → merged norm_cmp xs ys ≡ merged lex_cmp xs ys
merged_by_entries [] ys e h k = refl
merged_by_entries (x ∷ xs) ys e h k =
    let x_is : stage_norm x ≡ e = h x (contains_head x xs) in
    let low : filter (λ y. is_lt (norm_cmp y x)) ys ≡ filter (λ y. is_lt (lex_cmp y x)) ys = filter_same (λ y. is_lt (norm_cmp y x)) (λ y. is_lt (lex_cmp y x)) ys (λ z c. ap is_lt (one_norm_order z x (k z c ∙ sym x_is))) in
    let high : filter (λ y. is_lt (norm_cmp x y)) ys ≡ filter (λ y. is_lt (lex_cmp x y)) ys = filter_same (λ y. is_lt (norm_cmp x y)) (λ y. is_lt (lex_cmp x y)) ys (λ z c. ap is_lt (one_norm_order x z (x_is ∙ sym (k z c)))) in
    ap₂ (λ (u v : List (List ℤ)). u ++ (x ∷ v)) low
    (ap (merged norm_cmp xs) high ∙ merged_by_entries xs (filter (λ y. is_lt (lex_cmp x y)) ys) e (λ z c. h z (contains_tail x xs z c)) (λ z c. k z (from_filter (λ y. is_lt (lex_cmp x y)) ys z c).0))
