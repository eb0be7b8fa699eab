-- The numbers of pairs, found by the classes.
use Rattle.std.proofs.Common.{◌≡◌, ℕ, suc, ◌+◌, ◌-◌, ◌*◌, ◌≤◌, ◌<◌, List, [], ◌∷◌, ◌++◌, length, get_or, take, refl, ap, ap₂, sym, ◌∙◌, subst, arith, inl, inr, ◌⊎◌}
use Rattle.std.specs.Prelude.{ℤ, map}
use Rattle.std.specs.List.{Contains, flat_map, sum_by}
use Rattle.std.specs.List.Sorted.{IsStrictlySortedBy}
use Rattle.std.proofs.lemmas.Bool.{cases_lt, cases_order}
use Rattle.std.proofs.lemmas.List.{get_or_append_left, get_or-append-add}
use Rattle.std.proofs.lemmas.List.Elements.{Contains-append_cases, Contains-get_or}
use Rattle.std.proofs.lemmas.List.Sums.{sum_by_more_le}
use Rattle.lift_core.proofs.Lists.{contains_head, contains_tail, contains_nothing}
use Rattle.lift_core.proofs.Orders.{from_map}
use Rattle.stage_store.specs.Classes.{ClassValue, class_cmp, norm_at, ids_at, part_size, id_part, ids_of}
use Rattle.std.proofs.Common.{Bool, Result, Err, subst₂}
use Rattle.std.specs.Prelude.{Option, Some, None, MatchOption, MatchResult, ◌==◌}
use Rattle.std.specs.Ordering.{nat_cmp}
use Rattle.std.specs.List.Sorted.{IsBinarySearchResult, IsPermutation}
use Rattle.std.proofs.lemmas.Bool.{cases_Bool, eqb-true}
use Rattle.std.proofs.lemmas.List.{append-nil}
use Rattle.std.proofs.lemmas.List.Elements.{Contains-append_left, Contains-append_right}
use Rattle.std.proofs.lemmas.List.Sorted.{searched, Contains-permutation, IsPermutation-sym}
use Rattle.lift_core.specs.Stages.{stage_norm}
use Rattle.lift_core.proofs.Lists.{contains_cases, each_contained}
use Rattle.stage_store.specs.Classes.{row_at, IsPlace, IsClass, AreClasses}
use Rattle.stage_store.specs.declared.sieve.KeptPair.{KeptPair}
use Rattle.stage_store.specs.declared.opened.OpenPair.{OpenPair}
use Rattle.stage_store.proofs.Classes.{get_or-default, ids_at-none}
use Rattle.std.proofs.Common.{◌%◌}
use Rattle.std.specs.Prelude.{pos}
use Rattle.std.specs.List.Sorted.{IsNonDecreasingBy}
use Rattle.lift_core.specs.Stages.{last, IsPair, has_positive_last, has_negative_last}
use Rattle.lift_core.proofs.Orders.{in_map}
use Rattle.stage_store.specs.Classes.{IsPairAt, pairs_of}
use Rattle.stage_store.specs.Found.{IsSumOf}
use Rattle.stage_store.specs.Stage.{StageValue, IsStage}
use Rattle.stage_store.specs.Shelves.{IsKept}
use Rattle.stage_store.specs.Sieve.{IsSieve, pair_by}
use Rattle.stage_store.specs.declared.sieve.Sieve.{Sieve}
use Rattle.stage_store.proofs.Pairs.{rows_two, pairs_is, pairs_count, pair_found}
use Rattle.stage_store.proofs.Numbering.{numbered, stand_once}
use Rattle.stage_store.proofs.StageFields.{less_is}
use Rattle.stage_store.specs.Opened.{IsOpen, open_number, AreOpened, IsNotNumbered, IsNumbered, AreStarts, IsClassOf, HasNoClass, IsPlacedIn, IsNumberOf, HasNoNumber, AreAscending, AscendWithin}
use Rattle.stage_store.proofs.Classes.{IsPlaceFrom, sorted_at, each_at}
use Rattle.stage_store.proofs.Pairs.{pair_at, ids_of-length}
use Rattle.stage_store.specs.declared.side.Side.TheVariants.{Plus}

abbrev pub no_class : ClassValue
no_class = record { norm = 0; ids = [] }

-- one value more
pub pushed_each : (f : ℕ → ℕ) (old new : List ℕ) (v n : ℕ) → new ≡ old ++ (v ∷ []) → length old ≡ n → ((k : ℕ) → k < n → get_or old k 0 ≡ f k) → v ≡ f n → (k : ℕ) → k < n + 1 → get_or new k 0 ≡ f k
pushed_each f old new v n e l h is k s = elim (cases_lt k n) [
  | inl less ↦ ap (λ x. get_or x k 0) e ∙ get_or_append_left old (v ∷ []) 0 k (omega (arith, l, less)) ∙ h k less
  | inr more ↦
      let at : k ≡ length old + 0 = omega (arith, s, more, l) in
      ap (λ x. get_or x k 0) e ∙ ap (λ m. get_or (old ++ (v ∷ [])) m 0) at ∙ get_or-append-add old (v ∷ []) 0 0 ∙ is ∙ ap f (omega (arith, s, more))
]

-- ---- the class of a norm
pub no_class_of : (cs : List ClassValue) (n place : ℕ) → IsStrictlySortedBy class_cmp cs → IsPlaceFrom cs n place → (place < length cs → norm_at cs place ≡ n → ⊥) → HasNoClass cs n
no_class_of cs n place s p other = λ k l e. elim (cases_order k place) [
  | inl same ↦ other (omega (arith, same, l)) (ap (norm_at cs) (sym same) ∙ e)
  | inr (inl less) ↦ omega (arith, p.before k less, e)
  | inr (inr more) ↦ omega (arith, p.from place (omega arith) (omega (arith, more, l)), sorted_at cs place k s more l, e)
]

one_class : (cs : List ClassValue) (n j k : ℕ) → IsStrictlySortedBy class_cmp cs → j < length cs → k < length cs → norm_at cs j ≡ n → norm_at cs k ≡ n → j ≡ k
one_class cs n j k s jl kl a b = elim (cases_order j k) [
  | inl same ↦ same
  | inr (inl less) ↦ absurd (omega (arith, sorted_at cs j k s less kl, a, b))
  | inr (inr more) ↦ absurd (omega (arith, sorted_at cs k j s more jl, a, b))
]

-- ---- the number
rows_before : (q m r n : ℕ) → q < n → r < m → q * m + r < n * m
rows_before q m r n a b = let e : (q + 1) * m ≤ n * m = grind arith in let f : (q + 1) * m ≡ q * m + m = grind arith in omega (arith, e, f, b)

pub number_found : (plus minus : List ClassValue) (e norm k i j start p : ℕ) (firsts seconds starts : List ℕ) → AreStarts plus minus e starts → IsClassOf plus norm k → firsts ≡ (get_or plus k no_class).ids → seconds ≡ ids_at minus (e - norm)
    → start ≡ get_or starts k 0 → IsPlacedIn firsts seconds start i j p → IsNumberOf plus minus e i j p
number_found plus minus e norm k i j start p firsts seconds starts st cl fs ss is h =
    let n : e - norm ≡ e - (get_or plus k no_class).norm = ap (λ m. e - m) (sym cl.norm_is) in
    let ss2 : seconds ≡ ids_at minus (e - (get_or plus k no_class).norm) = ss ∙ ap (ids_at minus) n in
    let before : start ≡ sum_by (λ c. part_size minus e c) (take k plus) = is ∙ st.each k cl.inside in
    let rest : ℕ = h.q * length seconds + h.r in
    let size : length firsts * length seconds ≡ part_size minus e (get_or plus k no_class) = ap₂ (λ x y. x * y) (ap length fs) (ap length ss2) in
    let less : h.q * length seconds + h.r < part_size minus e (get_or plus k no_class) = omega (arith, rows_before h.q (length seconds) h.r (length firsts) h.q_inside h.r_inside, size) in
    let more : sum_by (λ c. part_size minus e c) (take k plus) + part_size minus e (get_or plus k no_class) ≤ sum_by (λ c. part_size minus e c) plus = sum_by_more_le (λ c. part_size minus e c) plus k no_class cl.inside in
    let at : p ≡ sum_by (λ c. part_size minus e c) (take k plus) + (h.q * length seconds + h.r) = h.number_is ∙ ap (λ m. m + (h.q * length seconds + h.r)) before in
    record {
      inside = omega (arith, at, less, more, ids_of-length plus minus e);
      places =
          ap (λ m. get_or (ids_of plus minus e) m (0, 0)) at
          ∙ pair_at plus minus e k (h.q * length seconds + h.r) h.q h.r cl.inside less (ap (λ m. h.q * m + h.r) (ap length ss2)) (omega (arith, h.r_inside, ap length ss2))
          ∙ ap₂ (λ (x y : ℕ). (x, y)) (ap (λ l. get_or l h.q 0) (sym fs) ∙ h.first_is) (ap (λ l. get_or l h.r 0) (sym ss2) ∙ h.second_is);
    }

pub number_missed : (plus minus : List ClassValue) (e norm k i j : ℕ) (firsts seconds : List ℕ) → IsStrictlySortedBy class_cmp plus → IsClassOf plus norm k → firsts ≡ (get_or plus k no_class).ids → seconds ≡ ids_at minus (e - norm)
    → (Contains firsts i → Contains seconds j → ⊥) → HasNoNumber plus minus e norm i j
number_missed plus minus e norm k i j firsts seconds s cl fs ss h = λ m l n a b.
    let same : m ≡ k = one_class plus norm m k s l cl.inside n cl.norm_is in
    h (subst (λ ids. Contains ids i) (ap (λ x. (get_or plus x no_class).ids) same ∙ sym fs) a) (subst (λ ids. Contains ids j) (sym ss) b)

-- ---- each pair has its class
part_of_first : (js : List ℕ) (is : List ℕ) (i j : ℕ) → Contains {X = ℕ × ℕ} (flat_map (λ x. map (λ y. (x, y)) js) is) (i, j) → Contains is i × Contains js j
part_of_first js [] i j c = absurd (contains_nothing (i, j) c)
part_of_first js (x ∷ is) i j c = elim (Contains-append_cases (map (λ y. (x, y)) js) (flat_map (λ x. map (λ y. (x, y)) js) is) (i, j) c) [
  | inl a ↦
      let r : (y : ℕ) × Contains js y × ((i, j) ≡ (x, y)) = from_map (λ y. (x, y)) js (i, j) a in
      let one : i ≡ x = ap (λ (q : ℕ × ℕ). q.0) r.2 in
      let two : j ≡ r.0 = ap (λ (q : ℕ × ℕ). q.1) r.2 in
      (subst (λ y. Contains (x ∷ is) y) (sym one) (contains_head x is), subst (λ y. Contains js y) (sym two) r.1)
  | inr b ↦ let r : Contains is i × Contains js j = part_of_first js is i j b in (contains_tail x is i r.0, r.1)
]

pub class_of_pair : (plus minus : List ClassValue) (e i j : ℕ) → Contains {X = ℕ × ℕ} (ids_of plus minus e) (i, j) → (k : ℕ) × (k < length plus) × Contains (get_or plus k no_class).ids i × Contains (ids_at minus (e - norm_at plus k)) j
class_of_pair [] minus e i j c = absurd (contains_nothing (i, j) c)
class_of_pair (d ∷ plus) minus e i j c = elim (Contains-append_cases (id_part minus e d) (ids_of plus minus e) (i, j) c) [
  | inl a ↦ let r : Contains d.ids i × Contains (ids_at minus (e - d.norm)) j = part_of_first (ids_at minus (e - d.norm)) d.ids i j a in (0, omega arith, r.0, r.1)
  | inr b ↦ let r : (k : ℕ) × (k < length plus) × Contains (get_or plus k no_class).ids i × Contains (ids_at minus (e - norm_at plus k)) j = class_of_pair plus minus e i j b in (suc r.0, omega (arith, r.1), r.2, r.3)
]

-- ---- searches
pub not_found : (xs : List ℕ) (x i : ℕ) (r : Result ℕ ℕ) → r ≡ Err i → IsBinarySearchResult (λ y. nat_cmp y x) xs r → AreAscending xs → Contains xs x → ⊥
not_found xs x i r e h asc c =
    let s : (i ≤ length xs) × ((k : ℕ) → k < i → get_or xs k 0 < x) × ((k : ℕ) → i ≤ k → k < length xs → x < get_or xs k 0) =
    subst (λ (q : Result ℕ ℕ). MatchResult q (λ i. (i < length xs) × (get_or xs i 0 ≡ x)) (λ i. (i ≤ length xs) × ((k : ℕ) → k < i → get_or xs k 0 < x) × ((k : ℕ) → i ≤ k → k < length xs → x < get_or xs k 0))) e (searched xs x r h asc) in
    let at : get_or xs c.0 0 ≡ x = get_or-default xs c.0 0 x c.1 ∙ c.2 in
    elim (cases_lt c.0 i) [
      | inl l ↦ omega (arith, s.1 c.0 l, at)
      | inr l ↦ omega (arith, s.2 c.0 l c.1, at)
    ]

pub ids_ascend_at : (cs : List ClassValue) (n : ℕ) (k : ℕ) → AscendWithin cs → k < length cs → AreAscending (get_or cs k no_class).ids
ids_ascend_at cs n k h l = each_at (λ c. AreAscending c.ids) cs k no_class h l

nothing_ascends : (ids : List ℕ) → ids ≡ [] → AreAscending ids
nothing_ascends ids e = λ i j l m. absurd (omega (arith, ap length e, m))

pub ids_at_ascend : (cs : List ClassValue) (n : ℕ) → IsStrictlySortedBy class_cmp cs → AscendWithin cs → AreAscending (ids_at cs n)
unfolding IsStrictlySortedBy
ids_at_ascend [] n s h = nothing_ascends [] refl
ids_at_ascend (c ∷ cs) n s h = elim (cases_Bool (c.norm == n)) [
  | inl t ↦
      let none : ids_at cs n ≡ [] = ids_at-none cs n (λ k l e. omega (arith, sorted_at (c ∷ cs) 0 (suc k) s (omega arith) (omega (arith, l)), e, eqb-true c.norm n t)) in
      rw t (subst (λ ids. AreAscending ids) (sym (ap (λ x. c.ids ++ x) none ∙ append-nil c.ids)) h.0)
  | inr t ↦ rw t (ids_at_ascend cs n s.1 h.1)
]

-- ---- the kept pairs of a norm
pub pair_has_norm : (listed : List (List ℤ)) (test : List ℤ → Bool) (plus : List ClassValue) (k i : ℕ) → AreClasses listed test plus → k < length plus → Contains (get_or plus k no_class).ids i → norm_at plus k ≡ stage_norm (row_at listed i)
pair_has_norm listed test plus k i p l c =
    sym (each_contained (IsPlace listed (get_or plus k no_class).norm) (get_or plus k no_class).ids i (each_at (IsClass listed) plus k no_class p.each l).places c).norm_is

pub first_inside : (listed : List (List ℤ)) (test : List ℤ → Bool) (plus minus : List ClassValue) (e i j : ℕ) → AreClasses listed test plus → Contains {X = ℕ × ℕ} (ids_of plus minus e) (i, j) → i < length listed
first_inside listed test plus minus e i j p c =
    let r = class_of_pair plus minus e i j c in
    (each_contained (IsPlace listed (get_or plus r.0 no_class).norm) (get_or plus r.0 no_class).ids i (each_at (IsClass listed) plus r.0 no_class p.each r.1).places r.2).inside

pub not_numbered : (listed : List (List ℤ)) (test : List ℤ → Bool) (plus minus : List ClassValue) (e n i j : ℕ) → AreClasses listed test plus → n ≡ stage_norm (row_at listed i) → HasNoNumber plus minus e n i j → Contains {X = ℕ × ℕ} (ids_of plus minus e) (i, j) → ⊥
not_numbered listed test plus minus e n i j p is h c =
    let r = class_of_pair plus minus e i j c in
    let same : norm_at plus r.0 ≡ n = pair_has_norm listed test plus r.0 i p r.1 r.2 ∙ sym is in
    h r.0 r.1 same r.2 (subst (λ m. Contains (ids_at minus (e - m)) j) same r.3)

module _ (plus minus : List ClassValue) (e : ℕ) where
  pub opened_none : AreOpened plus minus e [] []
  opened_none = record { sound = λ x c. absurd (contains_nothing x c); whole = λ x c. absurd (contains_nothing x c) }

  snoc_cases : {A : Type 0} (xs : List A) (x y : A) → Contains (xs ++ (x ∷ [])) y → Contains xs y ⊎ (x ≡ y)
  snoc_cases xs x y c = elim (Contains-append_cases xs (x ∷ []) y c) [
    | inl a ↦ inl a
    | inr b ↦ elim (contains_cases x [] y b) [ inl same ↦ inr same | inr none ↦ absurd (contains_nothing y none) ]
  ]

  pub opened_same : (kept now : List KeptPair) (x : KeptPair) (opens : List OpenPair) → now ≡ kept ++ (x ∷ []) → IsNotNumbered plus minus e x → AreOpened plus minus e kept opens → AreOpened plus minus e now opens
  opened_same kept now x opens is none h = record {
    sound = h.sound;
    whole = λ y c n m. elim (snoc_cases kept x y (subst (λ l. Contains l y) is c)) [
      | inl a ↦ h.whole y a n m
      | inr same ↦ absurd (subst (IsNotNumbered plus minus e) same none n m)
    ];
  }

  pub opened_more : (kept now : List KeptPair) (x : KeptPair) (opens new : List OpenPair) (o : OpenPair) → now ≡ kept ++ (x ∷ []) → new ≡ opens ++ (o ∷ []) → o.first ≡ x.first → o.second ≡ x.second → IsNumberOf plus minus e x.first x.second o.number
      → AreOpened plus minus e kept opens → AreOpened plus minus e now new
  opened_more kept now x opens new o is put f s number h = record {
    sound = λ y c. elim (snoc_cases opens o y (subst (λ l. Contains l y) put c)) [
      | inl a ↦ h.sound y a
      | inr same ↦ subst (IsNumbered plus minus e) same (subst₂ (λ (i j : ℕ). IsNumberOf plus minus e i j o.number) (sym f) (sym s) number)
    ];
    whole = λ y c n m. elim (snoc_cases kept x y (subst (λ l. Contains l y) is c)) [
      | inl a ↦ let r = h.whole y a n m in record { pair = r.pair; among = subst (λ l. Contains l r.pair) (sym put) (Contains-append_left opens (o ∷ []) r.pair r.among); first_is = r.first_is; second_is = r.second_is }
      | inr same ↦ record { pair = o; among = subst (λ l. Contains l o) (sym put) (Contains-append_right opens (o ∷ []) o (contains_head o [])); first_is = f ∙ ap (λ z. z.first) same; second_is = s ∙ ap (λ z. z.second) same }
    ];
  }

  pub opened_sorted : (kept : List KeptPair) (opens sorted : List OpenPair) → IsPermutation opens sorted → AreOpened plus minus e kept opens → AreOpened plus minus e kept sorted
  opened_sorted kept opens sorted moved h = record {
    sound = λ y c. h.sound y (Contains-permutation sorted opens y (IsPermutation-sym opens sorted moved) c);
    whole = λ y c n m. let r = h.whole y c n m in record { pair = r.pair; among = Contains-permutation opens sorted r.pair moved r.among; first_is = r.first_is; second_is = r.second_is };
  }

pub match_both : {A P Q : Type 0} {R S : A → Type 0} (o : Option A) → (P → Q) → ((x : A) → R x → S x) → MatchOption o P R → MatchOption o Q S
match_both None f g h = f h
match_both (Some x) f g h = g x h

-- ---- what is open has the numbers of all irreducible sums
module _ (s : StageValue) (plus minus : List ClassValue) (e : ℕ) (p : AreClasses s.listed has_positive_last plus) (m : AreClasses s.listed has_negative_last minus) where
  pair_of_places : (q : ℕ × ℕ) → Contains (ids_of plus minus e) q → IsPair s.listed (row_at s.listed q.0) (row_at s.listed q.1) × (stage_norm (row_at s.listed q.0) + stage_norm (row_at s.listed q.1) ≡ e)
  pair_of_places q c = (numbered s.listed e (row_at s.listed q.0) (row_at s.listed q.1)).0
      (subst (λ (l : List (List ℤ × List ℤ)). Contains l (rows_two s.listed q)) (sym (pairs_is s.listed minus e m plus p)) (in_map (rows_two s.listed) (ids_of plus minus e) q c))

  as_many : length (pairs_of s.listed e) ≡ length (ids_of plus minus e)
  as_many = pairs_count s.listed plus minus e p m ∙ sym (ids_of-length plus minus e)

  found_at : (i j n : ℕ) → IsNumberOf plus minus e i j n → (n < length (pairs_of s.listed e)) × IsPairAt s.listed e n i j
  found_at i j n h = let inside : n < length (pairs_of s.listed e) = omega (arith, h.inside, as_many) in (inside, pair_found s.listed plus minus e n (i, j) p m inside (sym h.places))

  module _ (v : Sieve) (shelf : List KeptPair) (opens : List OpenPair) (h : IsStage s) (sieve : IsSieve s.system.equations s.listed s.norm v) (rows : v.rows ≡ length s.listed) (above : s.norm < e) (near : e < v.shelves.horizon) (here : shelf ≡ get_or v.shelves.shelves.items (e % 256) []) (opened : AreOpened plus minus e shelf opens) where
    kept_number : (n i j : ℕ) → IsPairAt s.listed e n i j → n < length (pairs_of s.listed e) → stage_norm (row_at s.listed i) + stage_norm (row_at s.listed j) ≡ e → Contains {X = ℕ × ℕ} (ids_of plus minus e) (i, j)
        → IsKept v.shelves (pair_by Plus (stage_norm (row_at s.listed i) + stage_norm (row_at s.listed j)) i j) → (x : OpenPair) × Contains opens x × (x.number ≡ n)
    kept_number n i j at inside norms c k =
        let on_shelf : Contains shelf (record { norm = e; first = i; second = j }) = subst (λ l. Contains l (record { norm = e; first = i; second = j })) (sym here) (subst (λ d. Contains (get_or v.shelves.shelves.items (d % 256) []) (record { norm = d; first = i; second = j })) norms (k (omega (arith, norms, above, sieve.upto.closed)) (omega (arith, norms, near)))) in
        let a = opened.whole (record { norm = e; first = i; second = j }) on_shelf refl c in
        let f = found_at a.pair.first a.pair.second a.pair.number (opened.sound a.pair a.among) in
        let same : get_or (pairs_of s.listed e) a.pair.number ([], []) ≡ get_or (pairs_of s.listed e) n ([], []) = f.1.pair ∙ ap₂ (λ (x y : ℕ). rows_two s.listed (x, y)) a.first_is a.second_is ∙ sym at.pair in
        (a.pair, a.among, stand_once s.listed e a.pair.number n h.listed_ascending f.0 inside same)

    pub opened_is_open : IsNonDecreasingBy open_number opens → IsOpen s e opens
    opened_is_open ascending = record {
      sound = λ k d l. found_at (get_or opens k d).first (get_or opens k d).second (get_or opens k d).number (opened.sound (get_or opens k d) (Contains-get_or opens k d l));
      ascending = ascending;
      whole = λ n z inside sum.
          let q : ℕ × ℕ = get_or (ids_of plus minus e) n (0, 0) in
          let c : Contains (ids_of plus minus e) (get_or (ids_of plus minus e) n (0, 0)) = Contains-get_or (ids_of plus minus e) n (0, 0) (omega (arith, inside, as_many)) in
          let at : IsPairAt s.listed e n (get_or (ids_of plus minus e) n (0, 0)).0 (get_or (ids_of plus minus e) n (0, 0)).1 = pair_found s.listed plus minus e n (get_or (ids_of plus minus e) n (0, 0)) p m inside refl in
          let w = pair_of_places (get_or (ids_of plus minus e) n (0, 0)) c in
          let t : IsSumOf s.system.equations s.listed (row_at s.listed (get_or (ids_of plus minus e) n (0, 0)).0) (row_at s.listed (get_or (ids_of plus minus e) n (0, 0)).1) z = subst (λ (y : List ℤ × List ℤ). IsSumOf s.system.equations s.listed y.0 y.1 z) at.pair sum in
          elim (sieve.upto.sifted (get_or (ids_of plus minus e) n (0, 0)).0 (get_or (ids_of plus minus e) n (0, 0)).1 (omega (arith, at.one, rows)) (omega (arith, at.two, rows)) (less_is (pos 0) (last (row_at s.listed (get_or (ids_of plus minus e) n (0, 0)).0)) w.0.above) (less_is (last (row_at s.listed (get_or (ids_of plus minus e) n (0, 0)).1)) (pos 0) w.0.under)) [
            | inl k ↦ kept_number n (get_or (ids_of plus minus e) n (0, 0)).0 (get_or (ids_of plus minus e) n (0, 0)).1 at inside w.1 c k
            | inr none ↦ absurd (none z t)
          ];
    }
