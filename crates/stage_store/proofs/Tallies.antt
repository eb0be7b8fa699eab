-- The numbers of the pairs of some norms in a row: what a class more adds to them, and what they tell of the next norm.
use Rattle.std.proofs.Common.{◌≡◌, ℕ, ◌+◌, ◌-◌, ◌*◌, ◌≤◌, ◌<◌, List, [], ◌∷◌, ◌++◌, length, get_or, take, drop, refl, ap, sym, ◌∙◌, subst, arith, inl, inr, true, false, cond, eqb, length-append, length-drop, length-take-le, get_or-take, get_or-drop}
use Rattle.std.specs.Prelude.{◌==◌, ℤ, Some}
use Rattle.std.specs.List.{AllByRecursion, Contains, sum_by}
use Rattle.std.specs.List.Sorted.{IsStrictlySortedBy}
use Rattle.std.proofs.lemmas.Bool.{cases_Bool, cases_eq, cases_lt}
use Rattle.std.proofs.lemmas.Bool.Decides.{eqb_tells}
use Rattle.std.proofs.lemmas.List.{take_more, take-append-drop}
use Rattle.std.proofs.lemmas.List.Sums.{sum_by-cons, sum_by_push, sum_by_more}
use Rattle.lift_core.specs.Stages.{has_positive_last, has_negative_last}
use Rattle.stage_store.specs.Classes.{ClassValue, class_cmp, AreClasses, IsClass, ids_at, norm_at, part_size, with_class, pairs_of}
use Rattle.stage_store.specs.Tallies.{noted, IsInRange, IsClear, HasRaised, HasGained, IsTally, IsNoted, IsNextNoted}
use Rattle.stage_store.specs.declared.tally.Tally.{Tally}
use Rattle.stage_store.proofs.Classes.{ids_at-none, sorted_at, each_at}
use Rattle.std.proofs.lemmas.List.Elements.{Contains-get_or}
use Rattle.stage_store.specs.Answers.{HasStagePair}
use Rattle.stage_store.specs.Least.{IsLeastAbove}
use Rattle.stage_store.proofs.Pairs.{test_same, pairs_count}
use Rattle.stage_store.proofs.Numbering.{numbered}

abbrev no_class : ClassValue
no_class = record { norm = 0; ids = [] }

-- ---- how many rows of a norm a class more brings
size-cons : (c : ClassValue) (cs : List ClassValue) (n : ℕ) → length (ids_at (c ∷ cs) n) ≡ cond (c.norm == n) (length c.ids) 0 + length (ids_at cs n)
size-cons c cs n = elim (cases_Bool (c.norm == n)) [
  | inl t ↦ rw t (length-append c.ids (ids_at cs n))
  | inr t ↦ rw t (omega arith)
]

size-append : (cs ds : List ClassValue) (n : ℕ) → length (ids_at (cs ++ ds) n) ≡ length (ids_at cs n) + length (ids_at ds n)
size-append [] ds n = omega arith
size-append (c ∷ cs) ds n = omega (arith, size-cons c (cs ++ ds) n, size-append cs ds n, size-cons c cs n)

size-push : (cs : List ClassValue) (c : ClassValue) (n : ℕ) → length (ids_at (cs ++ (c ∷ [])) n) ≡ length (ids_at cs n) + cond (c.norm == n) (length c.ids) 0
size-push cs c n = omega (arith, size-append cs (c ∷ []) n, size-cons c [] n)

size-take : (cs : List ClassValue) (k n : ℕ) → k < length cs → length (ids_at (take (k + 1) cs) n) ≡ length (ids_at (take k cs) n) + cond (norm_at cs k == n) (length (get_or cs k no_class).ids) 0
size-take cs k n l = ap (λ (x : List ClassValue). length (ids_at x n)) (take_more cs k no_class l) ∙ size-push (take k cs) (get_or cs k no_class) n

-- ---- the classes that were looked at
module _ (old : Tally) (others : List ClassValue) (c : ClassValue) where
  -- none is before the first norm that is counted
  pub gained_none : (place : ℕ) → place ≤ length others → ((k : ℕ) → k < place → norm_at others k < old.base - c.norm) → HasGained old old (take place others) c
  gained_none place within before = record {
    base_is = refl;
    span = omega arith;
    counts = λ i l.
        let none : ids_at (take place others) ((old.base + i) - c.norm) ≡ [] = ids_at-none (take place others) ((old.base + i) - c.norm) (λ k m same.
        let kl : k < place = omega (arith, m, length-take-le place others within) in
        omega (arith, same, ap (λ (d : ClassValue). d.norm) (get_or-take place others k no_class kl), before k kl)) in
        omega (arith, ap (λ (x : List ℕ). length c.ids * length x) none);
  }

  -- a class without rows adds nothing
  pub gained_without_rows : length c.ids ≡ 0 → HasGained old old others c
  gained_without_rows empty = record {
    base_is = refl;
    span = omega arith;
    counts = λ i l. omega (arith, ap (λ n. n * length (ids_at others ((old.base + i) - c.norm))) empty);
  }

  -- one class more
  pub gained_more : (mid new : Tally) (k place n : ℕ) → k < length others → 0 < norm_at others k → HasGained old mid (take k others) c → mid.base + place ≡ c.norm + norm_at others k
      → n ≡ length c.ids * length (get_or others k no_class).ids → HasRaised mid new place n → HasGained old new (take (k + 1) others) c
  gained_more mid new k place n l positive h at is r = record {
    base_is = r.base_is ∙ h.base_is;
    span = omega (arith, r.span, h.span);
    counts = λ i il.
        let more : length (ids_at (take (k + 1) others) ((old.base + i) - c.norm)) ≡ length (ids_at (take k others) ((old.base + i) - c.norm)) + cond (norm_at others k == (old.base + i) - c.norm) (length (get_or others k no_class).ids) 0 = size-take others k ((old.base + i) - c.norm) l in
        let before : noted mid i ≡ noted old i + length c.ids * length (ids_at (take k others) ((old.base + i) - c.norm)) = h.counts i (omega (arith, il, r.span)) in
        elim (eqb_tells i place) [
          | inl t ↦
              let q : (norm_at others k == (old.base + i) - c.norm) ≡ true = elim (eqb_tells (norm_at others k) ((old.base + i) - c.norm)) [ inl u ↦ u.0 | inr u ↦ absurd (u.1 (omega (arith, at, t.1, h.base_is))) ] in
              let a : cond (i == place) n 0 ≡ n = ap (λ b. cond b n 0) t.0 in
              let b : cond (norm_at others k == (old.base + i) - c.norm) (length (get_or others k no_class).ids) 0 ≡ length (get_or others k no_class).ids = ap (λ b. cond b (length (get_or others k no_class).ids) 0) q in
              omega (arith, r.counts i il, before, a, is, ap (λ m. length c.ids * m) more, ap (λ m. length c.ids * m) b)
          | inr t ↦
              let q : (norm_at others k == (old.base + i) - c.norm) ≡ false = elim (eqb_tells (norm_at others k) ((old.base + i) - c.norm)) [ inl u ↦ absurd (t.1 (omega (arith, at, u.1, h.base_is, positive))) | inr u ↦ u.0 ] in
              let a : cond (i == place) n 0 ≡ 0 = ap (λ b. cond b n 0) t.0 in
              let b : cond (norm_at others k == (old.base + i) - c.norm) (length (get_or others k no_class).ids) 0 ≡ 0 = ap (λ b. cond b (length (get_or others k no_class).ids) 0) q in
              omega (arith, r.counts i il, before, a, ap (λ m. length c.ids * m) more, ap (λ m. length c.ids * m) b)
        ];
  }

  -- the others are beyond the last norm that is counted
  pub gained_all : (mid : Tally) (k : ℕ) → k ≤ length others → ((j : ℕ) → j < length others → 0 < norm_at others j) → HasGained old mid (take k others) c
      → ((j : ℕ) → k ≤ j → j < length others → mid.base + mid.span ≤ c.norm + norm_at others j) → HasGained old mid others c
  gained_all mid k within positive h beyond = record {
    base_is = h.base_is;
    span = h.span;
    counts = λ i il.
        let none : ids_at (drop k others) ((old.base + i) - c.norm) ≡ [] = ids_at-none (drop k others) ((old.base + i) - c.norm) (λ j m same.
        let jl : k + j < length others = omega (arith, m, length-drop k others) in
        let e : norm_at (drop k others) j ≡ norm_at others (k + j) = ap (λ (d : ClassValue). d.norm) (get_or-drop k others j no_class) in
        omega (arith, same, e, positive (k + j) jl, beyond (k + j) (omega arith) jl, h.base_is, il)) in
        let whole : length (ids_at others ((old.base + i) - c.norm)) ≡ length (ids_at (take k others) ((old.base + i) - c.norm)) =
        ap (λ (x : List ClassValue). length (ids_at x ((old.base + i) - c.norm))) (sym (take-append-drop k others)) ∙ size-append (take k others) (drop k others) ((old.base + i) - c.norm)
        ∙ omega (arith, ap length none) in
        omega (arith, h.counts i il, ap (λ m. length c.ids * m) whole);
  }

-- all classes from a place on are beyond, where the one at the place is
pub all_beyond : (others : List ClassValue) (k to n : ℕ) → IsStrictlySortedBy class_cmp others → to ≤ n + norm_at others k → (j : ℕ) → k ≤ j → j < length others → to ≤ n + norm_at others j
all_beyond others k to n sorted h j l m = elim (cases_eq k j) [
  | inl same ↦ subst (λ i. to ≤ n + norm_at others i) same h
  | inr other ↦ omega (arith, h, sorted_at others k j sorted (omega (arith, l, other)) m)
]

-- nothing is counted, so nothing is gained
pub gained_nothing : (old new : Tally) (others : List ClassValue) (c : ClassValue) → new.base ≡ old.base → new.span ≡ 0 → HasGained old new others c
gained_nothing old new others c base none = record { base_is = base; span = omega (arith, none); counts = λ i l. absurd (omega (arith, none, l)) }

-- ---- the first classes one after another
pub tally_none : (minus : List ClassValue) (base : ℕ) (t : Tally) → IsInRange t → IsClear base t → IsTally [] minus t
tally_none minus base t range clear = record { range = range; counts = λ i l. clear.nothing i l }

pub tally_more : (plus minus : List ClassValue) (k : ℕ) (t u : Tally) → k < length plus → IsTally (take k plus) minus t → HasGained t u minus (get_or plus k no_class) → IsInRange u → IsTally (take (k + 1) plus) minus u
tally_more plus minus k t u l h g range = record {
  range = range;
  counts = λ i il. subst (λ b. noted u i ≡ sum_by (λ c. part_size minus (b + i) c) (take (k + 1) plus)) (sym g.base_is)
      (omega (arith, g.counts i il, h.counts i (omega (arith, il, g.span)), sum_by_more (λ c. part_size minus (t.base + i) c) plus k no_class l));
}

-- ---- a class more of either sign
parts_first : (plus minus : List ClassValue) (e n : ℕ) (ids : List ℕ) → sum_by (λ c. part_size minus n c) (with_class e ids plus) ≡ sum_by (λ c. part_size minus n c) plus + length ids * length (ids_at minus (n - e))
parts_first plus minus e n [] = omega arith
parts_first plus minus e n (i ∷ ids) = sum_by_push (λ c. part_size minus n c) plus (record { norm = e; ids = i ∷ ids })

-- the class and one of the other sign have pairs of norm n for both alike
same_part : (minus : List ClassValue) (e n : ℕ) (ids : List ℕ) (c : ClassValue) → 0 < e → 0 < c.norm
    → length c.ids * cond (e == n - c.norm) (length ids) 0 ≡ length ids * cond (c.norm == n - e) (length c.ids) 0
same_part minus e n ids c some positive =
    let p : eqb e (n - c.norm) ≡ eqb c.norm (n - e) = sym (test_same c.norm e n some) ∙ ap (λ m. eqb m n) (omega arith) ∙ test_same e c.norm n positive in
    elim (cases_Bool (c.norm == n - e)) [
      | inl t ↦ let q : eqb e (n - c.norm) ≡ true = p ∙ t in rw (q, t) (omega arith)
      | inr t ↦ let q : eqb e (n - c.norm) ≡ false = p ∙ t in rw (q, t) (omega arith)
    ]

parts_second : (plus minus : List ClassValue) (e n : ℕ) (ids : List ℕ) → 0 < e → AllByRecursion (λ (c : ClassValue). 0 < c.norm) plus
    → sum_by (λ c. part_size (with_class e ids minus) n c) plus ≡ sum_by (λ c. part_size minus n c) plus + length ids * length (ids_at plus (n - e))
parts_second plus minus e n [] some h = omega arith
parts_second [] minus e n (i ∷ ids) some h = omega arith
parts_second (c ∷ plus) minus e n (i ∷ ids) some h =
    let a : length (ids_at (minus ++ (record { norm = e; ids = i ∷ ids } ∷ [])) (n - c.norm)) ≡ length (ids_at minus (n - c.norm)) + cond (e == n - c.norm) (length (i ∷ ids)) 0 = size-push minus (record { norm = e; ids = i ∷ ids }) (n - c.norm) in
    omega (
      arith,
      sum_by-cons (λ c. part_size (with_class e (i ∷ ids) minus) n c) c plus,
      sum_by-cons (λ c. part_size minus n c) c plus,
      parts_second plus minus e n (i ∷ ids) some h.1,
      ap (λ m. length c.ids * m) a,
      same_part minus e n (i ∷ ids) c some h.0,
      ap (λ m. length (i ∷ ids) * m) (size-cons c plus (n - e)),
    )

pub tally_grown : (plus minus : List ClassValue) (a b : ClassValue) (t u v : Tally) → 0 < b.norm → AllByRecursion (λ (c : ClassValue). 0 < c.norm) (with_class a.norm a.ids plus) → IsTally plus minus t
    → HasGained t u minus a → HasGained u v (with_class a.norm a.ids plus) b → IsInRange v → IsTally (with_class a.norm a.ids plus) (with_class b.norm b.ids minus) v
tally_grown plus minus a b t u v some positive h g k range = record {
  range = range;
  counts = λ i il.
      let base : v.base ≡ t.base = k.base_is ∙ g.base_is in
      let second : noted v i ≡ noted u i + length b.ids * length (ids_at (with_class a.norm a.ids plus) ((t.base + i) - b.norm)) = k.counts i il ∙ ap (λ n. noted u i + length b.ids * length (ids_at (with_class a.norm a.ids plus) ((n + i) - b.norm))) g.base_is in
      subst (λ n. noted v i ≡ sum_by (λ c. part_size (with_class b.norm b.ids minus) (n + i) c) (with_class a.norm a.ids plus)) (sym base)
      (omega (
        arith,
        second,
        g.counts i (omega (arith, il, k.span)),
        h.counts i (omega (arith, il, k.span, g.span)),
        parts_first plus minus a.norm (t.base + i) a.ids,
        parts_second (with_class a.norm a.ids plus) minus b.norm (t.base + i) b.ids some positive,
      ));
}

-- no norm is counted
pub tally_empty : (plus minus : List ClassValue) (t : Tally) → IsInRange t → t.span ≡ 0 → IsTally plus minus t
tally_empty plus minus t range none = record { range = range; counts = λ i l. absurd (omega (arith, none, l)) }

pub positive_norms : (listed : List (List ℤ)) (cs : List ClassValue) → AllByRecursion (IsClass listed) cs → AllByRecursion (λ (c : ClassValue). 0 < c.norm) cs
positive_norms listed [] h = tt
positive_norms listed (c ∷ cs) h = (h.0.positive, positive_norms listed cs h.1)

pub positive_at : (listed : List (List ℤ)) (cs : List ClassValue) → AllByRecursion (IsClass listed) cs → (k : ℕ) → k < length cs → 0 < norm_at cs k
positive_at listed cs h k l = (each_at (IsClass listed) cs k no_class h l).positive

-- ---- what the numbers tell of the listed rows' pairs
module _ (listed : List (List ℤ)) (plus minus : List ClassValue) (p : AreClasses listed has_positive_last plus) (m : AreClasses listed has_negative_last minus) (t : Tally) (h : IsTally plus minus t) where
  pub noted_pairs : (n pairs : ℕ) → IsNoted t n pairs → pairs ≡ length (pairs_of listed n)
  noted_pairs n pairs k = subst (λ e. pairs ≡ length (pairs_of listed e)) k.norm_is (k.pairs_are ∙ h.counts k.place k.inside ∙ sym (pairs_count listed plus minus (t.base + k.place) p m))

  noted_at : (n : ℕ) → t.base ≤ n → n < t.base + t.span → noted t (n - t.base) ≡ length (pairs_of listed n)
  noted_at n from to =
      let e : t.base + (n - t.base) ≡ n = omega (arith, from) in
      subst (λ i. noted t (n - t.base) ≡ length (pairs_of listed i)) e (h.counts (n - t.base) (omega (arith, from, to)) ∙ sym (pairs_count listed plus minus (t.base + (n - t.base)) p m))

  pub next_noted : (d e : ℕ) → IsNextNoted t d e → IsLeastAbove (HasStagePair listed) d (Some e)
  next_noted d e k =
      let some : 0 < length (pairs_of listed e) = omega (arith, k.some, noted_at e (omega (arith, k.above, k.from)) k.to) in
      let f : List ℤ = (get_or (pairs_of listed e) 0 ([], [])).0 in
      let g : List ℤ = (get_or (pairs_of listed e) 0 ([], [])).1 in
      let q = (numbered listed e (get_or (pairs_of listed e) 0 ([], [])).0 (get_or (pairs_of listed e) 0 ([], [])).1).0 (Contains-get_or (pairs_of listed e) 0 ([], []) some) in
      record {
        above = k.above;
        member = (f, g, q.0, q.1);
        least = λ n l o. elim (cases_lt n e) [
          | inl before ↦
              let c : Contains (pairs_of listed n) (o.0, o.1) = (numbered listed n o.0 o.1).1 (o.2, o.3) in
              absurd (omega (arith, c.1, k.none n l before, noted_at n (omega (arith, l, k.from)) (omega (arith, before, k.to))))
          | inr upto ↦ upto
        ];
      }
