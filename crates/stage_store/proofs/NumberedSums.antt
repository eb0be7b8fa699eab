-- The irreducible sums of pairs by their numbers: of a range of numbers, and of one.
use Rattle.std.proofs.Common.{◌≡◌, ℕ, ◌+◌, ◌≤◌, ◌<◌, List, [], ◌∷◌, ◌++◌, length, ap, sym, refl, ◌∙◌, subst, arith, inl, inr, ◌⊎◌}
use Rattle.std.specs.Prelude.{ℤ, ◌↔◌}
use Rattle.std.specs.List.{Contains}
use Rattle.std.proofs.lemmas.Bool.{cases_lt}
use Rattle.std.proofs.lemmas.List.Elements.{Contains-append_left, Contains-append_right, Contains-append_cases, Contains-get_or}
use Rattle.int_vector.specs.Vectors.{◌⊑◌, lex_cmp, largest}
use Rattle.int_vector.specs.Operations.{add}
use Rattle.lift_core.specs.PairSums.{HasSum, IsIrreducible, IsNewSum}
use Rattle.lift_core.proofs.Lists.{contains_cases, contains_head, contains_nothing}
use Rattle.stage_store.specs.Stage.{StageValue, IsStage}
use Rattle.stage_store.specs.Classes.{pairs_of, row_at, IsPairAt}
use Rattle.lift_core.specs.Halves.{IsReducible}
use Rattle.stage_store.specs.Found.{IsSumOf}
use Rattle.std.proofs.Common.{get_or, Less, take, drop, length-append}
use Rattle.std.proofs.lemmas.List.{length-take-le}
use Rattle.std.specs.List.Sorted.{IsStrictlySortedBy, IsNonDecreasingBy}
use Rattle.lift_core.specs.Lists.{IsListOf}
use Rattle.lift_core.specs.Stages.{stage_norm, norm_cmp, IsPair, IsNextNorm}
use Rattle.lift_core.proofs.Lists.{contains_tail, each_contained, each_from_contained}
use Rattle.stage_store.proofs.Classes.{get_or-default}
use Rattle.stage_store.proofs.Numbering.{numbered}
use Rattle.stage_store.proofs.Publish.{one_norm_order}
use Rattle.stage_store.proofs.Closing.{sum_is_row}
use Rattle.stage_store.specs.Numbered.{pair_at, IsSumNumbered, GainsNumbered, HasNoneBetween, IsNextPair}
use Rattle.stage_store.specs.Opened.{IsOpen, open_number}
use Rattle.stage_store.specs.declared.opened.OpenPair.{OpenPair}

same_place : {A : Type 0} (xs : List A) (x d : A) → (c : Contains xs x) → get_or xs c.0 d ≡ x
same_place xs x d c = get_or-default xs c.0 d x c.1 ∙ c.2

abbrev two : List ℤ → List ℤ → List ℤ × List ℤ
two u v = (u, v)

module _ (s : StageValue) (e : ℕ) where
  -- no number
  pub gains_nothing : (from : ℕ) (rows : List (List ℤ)) → GainsNumbered s e from from rows rows
  gains_nothing from rows z = (λ c. inl c, λ t. elim t [ inl c ↦ c | inr h ↦ absurd (omega (arith, h.at_least, h.below)) ])

  wider : (from to from' to' : ℕ) (z : List ℤ) → from' ≤ from → to ≤ to' → IsSumNumbered s e from to z → IsSumNumbered s e from' to' z
  wider from to from' to' z a b h = record { number = h.number; at_least = omega (arith, a, h.at_least); below = omega (arith, b, h.below); sum = h.sum }

  parted : (from mid to : ℕ) (z : List ℤ) → IsSumNumbered s e from to z → IsSumNumbered s e from mid z ⊎ IsSumNumbered s e mid to z
  parted from mid to z h = elim (cases_lt h.number mid) [
    | inl l ↦ inl (record { number = h.number; at_least = h.at_least; below = l; sum = h.sum })
    | inr g ↦ inr (record { number = h.number; at_least = omega (arith, g); below = h.below; sum = h.sum })
  ]

  pub gains_more : (from mid to : ℕ) (a b c : List (List ℤ)) → from ≤ mid → mid ≤ to → GainsNumbered s e from mid a b → GainsNumbered s e mid to b c → GainsNumbered s e from to a c
  gains_more from mid to a b c l m g h z = (
    λ x. elim ((h z).0 x) [
      | inl y ↦ elim ((g z).0 y) [ inl o ↦ inl o | inr n ↦ inr (wider from mid from to z (omega arith) m n) ]
      | inr n ↦ inr (wider mid to from to z l (omega arith) n)
    ],
    λ x. elim x [
      | inl o ↦ (h z).1 (inl ((g z).1 (inl o)))
      | inr n ↦ elim (parted from mid to z n) [
        | inl t ↦ (h z).1 (inl ((g z).1 (inr t)))
        | inr t ↦ (h z).1 (inr t)
      ]
    ],
  )

  -- numbers without an irreducible sum
  pub gains_gap : (from to : ℕ) (rows : List (List ℤ)) → HasNoneBetween s e from to → GainsNumbered s e from to rows rows
  gains_gap from to rows none z = (λ c. inl c, λ t. elim t [ inl c ↦ c | inr h ↦ absurd (none z h) ])

  pub none_upto : (from to : ℕ) → to ≤ from → HasNoneBetween s e from to
  none_upto from to l = λ z h. omega (arith, l, h.at_least, h.below)

  -- below the number of the next open pair
  pub gap_before : (opens : List OpenPair) (k from to : ℕ) → IsOpen s e opens → to ≤ length (pairs_of s.listed e) → ((j : ℕ) (d : OpenPair) → j < k → (get_or opens j d).number < from)
      → ((d : OpenPair) → k < length opens → to ≤ (get_or opens k d).number) → HasNoneBetween s e from to
  gap_before opens k from to h inside before behind = λ z n.
      let x = h.whole n.number z (omega (arith, n.below, inside)) n.sum in
      let at : (get_or opens x.1.0 x.0).number ≡ n.number = ap (λ o. o.number) x.1.2 ∙ x.2 in
      elim (cases_lt x.1.0 k) [
        | inl l ↦ omega (arith, before x.1.0 x.0 l, at, n.at_least)
        | inr l ↦ omega (arith, behind x.0 (omega (arith, l, x.1.1)), h.ascending k x.1.0 x.0 l x.1.1, at, n.below)
      ]

  module _ (p i j : ℕ) (at : IsPairAt s.listed e p i j) where
    abbrev is_sum : List ℤ → Type 0
    is_sum z = IsSumOf s.system.equations s.listed (row_at s.listed i) (row_at s.listed j) z

    from_number : (z : List ℤ) → IsSumNumbered s e p (p + 1) z → is_sum z
    from_number z h =
        let n : h.number ≡ p = omega (arith, h.at_least, h.below) in
        let q : pair_at s e h.number ≡ two (row_at s.listed i) (row_at s.listed j) = ap (λ (k : ℕ). pair_at s e k) n ∙ at.pair in
        subst (λ (t : List ℤ × List ℤ). IsSumOf s.system.equations s.listed t.0 t.1 z) q h.sum

    to_number : (z : List ℤ) → is_sum z → IsSumNumbered s e p (p + 1) z
    to_number z h = record {
      number = p;
      at_least = omega arith;
      below = omega arith;
      sum = subst (λ (t : List ℤ × List ℤ). IsSumOf s.system.equations s.listed t.0 t.1 z) (sym at.pair) h;
    }

    pub no_sum : (rows : List (List ℤ)) → (HasSum s.system.equations (row_at s.listed i) (row_at s.listed j) → ⊥) → GainsNumbered s e p (p + 1) rows rows
    no_sum rows none z = (λ c. inl c, λ t. elim t [ inl c ↦ c | inr h ↦ absurd (none (from_number z h).sum) ])

    pub reducible : (rows : List (List ℤ)) (out : List ℤ) (k : ℕ) → out ≡ add (row_at s.listed i) (row_at s.listed j) → k < length s.listed → row_at s.listed k ⊑ out → GainsNumbered s e p (p + 1) rows rows
    reducible rows out k is l b z = (
      λ c. inl c,
      λ t. elim t [
        | inl c ↦ c
        | inr h ↦
            let q = from_number z h in
            absurd (q.irreducible (row_at s.listed k) (Contains-get_or s.listed k [] l) (subst (λ (y : List ℤ). row_at s.listed k ⊑ y) (is ∙ sym q.is) b))
      ],
    )

    pub reduced : (rows : List (List ℤ)) (out : List ℤ) → out ≡ add (row_at s.listed i) (row_at s.listed j) → IsReducible s.listed out → GainsNumbered s e p (p + 1) rows rows
    reduced rows out is r z = (
      λ c. inl c,
      λ t. elim t [
        | inl c ↦ c
        | inr h ↦ let q = from_number z h in absurd (q.irreducible r.0 r.1 (subst (λ (y : List ℤ). r.0 ⊑ y) (is ∙ sym q.is) r.2))
      ],
    )

    pub found_before : (rows : List (List ℤ)) (out : List ℤ) → out ≡ add (row_at s.listed i) (row_at s.listed j) → Contains rows out → GainsNumbered s e p (p + 1) rows rows
    found_before rows out is there z = (
      λ c. inl c,
      λ t. elim t [
        | inl c ↦ c
        | inr h ↦ subst (λ (y : List ℤ). Contains rows y) (is ∙ sym (from_number z h).is) there
      ],
    )

    pub pushed : (rows new : List (List ℤ)) (out : List ℤ) → HasSum s.system.equations (row_at s.listed i) (row_at s.listed j) → out ≡ add (row_at s.listed i) (row_at s.listed j)
        → IsIrreducible s.listed out → new ≡ rows ++ out ∷ [] → GainsNumbered s e p (p + 1) rows new
    pushed rows new out sum is irr e' z = (
      λ c. elim (Contains-append_cases rows (out ∷ []) z (subst (λ (l : List (List ℤ)). Contains l z) e' c)) [
        | inl a ↦ inl a
        | inr b ↦ inr (to_number z (elim (contains_cases out [] z b) [
          | inl same ↦ subst is_sum same (record { sum = sum; is = is; irreducible = irr })
          | inr none ↦ absurd (contains_nothing z none)
        ]))
      ],
      λ t. subst (λ (l : List (List ℤ)). Contains l z) (sym e') (elim t [
        | inl a ↦ Contains-append_left rows (out ∷ []) z a
        | inr h ↦ Contains-append_right rows (out ∷ []) z (subst (λ (y : List ℤ). Contains (out ∷ []) y) (is ∙ sym (from_number z h).is) (contains_head out []))
      ]),
    )

-- ---- all pairs of the next norm
norms_ascend : (e : ℕ) (xs : List (List ℤ)) → ((z : List ℤ) → Contains xs z → stage_norm z ≡ e) → IsStrictlySortedBy lex_cmp xs → IsStrictlySortedBy norm_cmp xs
unfolding IsStrictlySortedBy
norms_ascend e [] h s = tt
norms_ascend e (x ∷ xs) h s = (
  each_from_contained (λ z. norm_cmp x z ≡ Less) xs (λ z c. one_norm_order x z (h x (contains_head x xs) ∙ sym (h z (contains_tail x xs z c))) ∙ each_contained (λ z. lex_cmp x z ≡ Less) xs z s.0 c),
  norms_ascend e xs (λ z c. h z (contains_tail x xs z c)) s.1,
)

module _ (s : StageValue) (e pairs : ℕ) (count : pairs ≡ length (pairs_of s.listed e)) where
  new_sum : (z : List ℤ) → IsSumNumbered s e 0 pairs z → IsNewSum s.system.equations s.listed e z
  new_sum z h =
      let c : Contains (pairs_of s.listed e) (two (pair_at s e h.number).0 (pair_at s e h.number).1) = Contains-get_or (pairs_of s.listed e) h.number ([], []) (omega (arith, h.below, count)) in
      let n : IsPair s.listed (pair_at s e h.number).0 (pair_at s e h.number).1 × (stage_norm (pair_at s e h.number).0 + stage_norm (pair_at s e h.number).1 ≡ e) = (numbered s.listed e (pair_at s e h.number).0 (pair_at s e h.number).1).0 c in
      record { first = (pair_at s e h.number).0; second = (pair_at s e h.number).1; pair = n.0; norms = n.1; sum = h.sum.sum; is = h.sum.is; irreducible = h.sum.irreducible }

  sum_numbered : (z : List ℤ) → IsNewSum s.system.equations s.listed e z → IsSumNumbered s e 0 pairs z
  sum_numbered z n =
      let c : Contains (pairs_of s.listed e) (two n.first n.second) = (numbered s.listed e n.first n.second).1 (n.pair, n.norms) in
      let at : pair_at s e c.0 ≡ two n.first n.second = same_place (pairs_of s.listed e) (two n.first n.second) ([], []) c in
      record {
        number = c.0;
        at_least = omega arith;
        below = omega (arith, c.1, count);
        sum = subst (λ (t : List ℤ × List ℤ). IsSumOf s.system.equations s.listed t.0 t.1 z) (sym at) (record { sum = n.sum; is = n.is; irreducible = n.irreducible });
      }

  -- the rows that all numbers give, in order, are the norm's new sums
  pub all_gathered : (gathered rows : List (List ℤ)) → IsStage s → IsNextNorm s.listed s.waiting s.norm e → e ≤ largest → GainsNumbered s e 0 pairs [] gathered
      → IsListOf lex_cmp (λ z. Contains gathered z ⊎ Contains [] z) rows → IsListOf norm_cmp (IsNewSum s.system.equations s.listed e) rows
  all_gathered gathered rows h next small g list =
      let members : (z : List ℤ) → Contains rows z ↔ IsNewSum s.system.equations s.listed e z = λ z. (
        λ c. elim ((list.members z).0 c) [
          | inl a ↦ elim ((g z).0 a) [ inl n ↦ absurd (contains_nothing z n) | inr i ↦ new_sum z i ]
          | inr n ↦ absurd (contains_nothing z n)
        ],
        λ n. (list.members z).1 (inl ((g z).1 (inr (sum_numbered z n)))),
      ) in
      record {
        ascending = norms_ascend e rows (λ z c. (sum_is_row s e z h (omega (arith, next.above)) small ((members z).0 c)).1) list.ascending;
        members = members;
      }

-- a norm has no new sum where no pair of it is open
pub none_open : (s : StageValue) (e : ℕ) (opens : List OpenPair) → IsOpen s e opens → length opens ≡ 0 → (z : List ℤ) → IsNewSum s.system.equations s.listed e z → ⊥
none_open s e opens h empty z n =
    let i : IsSumNumbered s e 0 (length (pairs_of s.listed e)) z = sum_numbered s e (length (pairs_of s.listed e)) refl z n in
    absurd (omega (arith, empty, (h.whole i.number z i.below i.sum).1.1))

-- no row is the list of what has no member
pub list_of_none : (P : List ℤ → Type 0) → ((z : List ℤ) → P z → ⊥) → (rows : List (List ℤ)) → rows ≡ [] → IsListOf norm_cmp P rows
unfolding IsStrictlySortedBy
list_of_none P none rows is = subst (λ (l : List (List ℤ)). IsListOf norm_cmp P l) (sym is) (record { ascending = tt; members = λ z. (λ c. absurd (contains_nothing z c), λ p. absurd (none z p)) })

-- what is written over the front of a vector of the same length
pub written_length : (len : ℕ) (new old : List ℤ) → length new ≡ len → length (take len (new ++ drop (length new) old)) ≡ len
written_length len new old e = length-take-le len (new ++ drop (length new) old) (omega (arith, e, length-append new (drop (length new) old)))

-- ---- open pairs
pub same_default : (opens : List OpenPair) (k : ℕ) (d x : OpenPair) → k < length opens → (get_or opens k d).number ≡ (get_or opens k x).number
same_default opens k d x l = ap (λ o. o.number) (get_or-default opens k d x l)

pub all_before : (opens : List OpenPair) (middle first : ℕ) (x : OpenPair) → IsNonDecreasingBy open_number opens → middle < length opens → (get_or opens middle x).number < first → (k : ℕ) (d : OpenPair) → k < middle + 1 → open_number (get_or opens k d) < first
all_before opens middle first x h l less k d s = omega (arith, h k middle d (omega (arith, s)) l, same_default opens middle d x l, less)

pub all_after : (opens : List OpenPair) (middle first : ℕ) (x : OpenPair) → IsNonDecreasingBy open_number opens → middle < length opens → first ≤ (get_or opens middle x).number → (k : ℕ) (d : OpenPair) → middle ≤ k → k < length opens → first ≤ open_number (get_or opens k d)
all_after opens middle first x h l least k d m i = omega (arith, h middle k d m i, same_default opens middle d x l, least)

pub open_at : (s : StageValue) (e : ℕ) (opens : List OpenPair) (k : ℕ) (x : OpenPair) → IsOpen s e opens → k < length opens → x ≡ get_or opens k x → (x.number < length (pairs_of s.listed e)) × IsPairAt s.listed e x.number x.first x.second
open_at s e opens k x h l is = subst (λ (o : OpenPair). (o.number < length (pairs_of s.listed e)) × IsPairAt s.listed e o.number o.first o.second) (sym is) (h.sound k x l)

-- the next open pair's number is the number up to which none is left
pub gap_at : (s : StageValue) (e : ℕ) (opens : List OpenPair) (k from to : ℕ) (x : OpenPair) → IsOpen s e opens → k < length opens → x ≡ get_or opens k x → to ≤ x.number → to ≤ length (pairs_of s.listed e) → ((j : ℕ) (d : OpenPair) → j < k → (get_or opens j d).number < from) → HasNoneBetween s e from to
gap_at s e opens k from to x h l is small inside before = gap_before s e opens k from to h inside before (λ d m. omega (arith, same_default opens k d x m, ap (λ o. o.number) is, small))

pub before_more : (opens : List OpenPair) (k done next : ℕ) (x : OpenPair) → k < length opens → x ≡ get_or opens k x → ((j : ℕ) (d : OpenPair) → j < k → (get_or opens j d).number < done) → done ≤ next → x.number < next → (j : ℕ) (d : OpenPair) → j < k + 1 → (get_or opens j d).number < next
before_more opens k done next x l is before up here j d s = elim (cases_lt j k) [
  | inl m ↦ omega (arith, before j d m, up)
  | inr m ↦ let same : j ≡ k = omega (arith, m, s) in omega (arith, ap (λ i. (get_or opens i d).number) same, same_default opens k d x l, ap (λ o. o.number) is, here)
]

pub same_open : (opens : List OpenPair) (k : ℕ) (x y : OpenPair) → k < length opens → x ≡ get_or opens k x → y ≡ get_or opens k y → x.number ≡ y.number
same_open opens k x y l a b = ap (λ o. o.number) a ∙ same_default opens k x y l ∙ sym (ap (λ o. o.number) b)

-- the open pair at the first place behind those with a number below `from`
pub next_open : (s : StageValue) (e : ℕ) (opens : List OpenPair) (k from : ℕ) (x : OpenPair) → IsOpen s e opens → k < length opens → x ≡ get_or opens k x → ((j : ℕ) (d : OpenPair) → j < k → (get_or opens j d).number < from)
    → ((j : ℕ) (d : OpenPair) → k ≤ j → j < length opens → from ≤ (get_or opens j d).number) → IsNextPair s e from x.number x.first
next_open s e opens k from x h l is before after =
    let at : (x.number < length (pairs_of s.listed e)) × IsPairAt s.listed e x.number x.first x.second = open_at s e opens k x h l is in
    record {
      at_least = omega (arith, after k x (omega arith) l, ap (λ o. o.number) is);
      below = at.0;
      none = gap_at s e opens k from x.number x h l is (omega arith) (omega (arith, at.0)) before;
      inside = at.1.one;
      first_is = ap (λ p. p.0) at.1.pair;
    }
