-- The sums of a part by the numbers of its pairs, and the sums of several parts.
use Rattle.std.proofs.Common.{◌≡◌, ℕ, ◌+◌, ◌<◌, ◌≤◌, ◌%◌, List, [], ◌∷◌, ◌++◌, length, ap, sym, ◌∙◌, subst, arith, inl, inr, ◌⊎◌, Less}
use Rattle.std.specs.Prelude.{ℤ, ◌↔◌}
use Rattle.std.specs.List.{Contains}
use Rattle.std.specs.List.Sorted.{IsStrictlySortedBy}
use Rattle.std.proofs.lemmas.Bool.{cases_lt}
use Rattle.std.proofs.lemmas.List.Elements.{Contains-append_left, Contains-append_right, Contains-append_cases, Contains-get_or}
use Rattle.int_vector.specs.Vectors.{lex_cmp, largest}
use Rattle.int_vector.specs.Operations.{add}
use Rattle.lift_core.specs.PairSums.{HasSum, IsNewSum}
use Rattle.lift_core.specs.Lists.{IsListOf}
use Rattle.lift_core.specs.Stages.{stage_norm, norm_cmp, IsPair, IsNextNorm}
use Rattle.lift_core.proofs.Lists.{contains_head, contains_tail, contains_nothing, each_contained, each_from_contained}
use Rattle.stage_store.specs.Stage.{StageValue, IsStage}
use Rattle.stage_store.specs.Classes.{pairs_of, row_at}
use Rattle.stage_store.specs.Found.{IsSumOf}
use Rattle.stage_store.specs.Numbered.{pair_at, GainsNumbered, HasNoneBetween}
use Rattle.stage_store.proofs.Classes.{get_or-default}
use Rattle.stage_store.proofs.Numbering.{numbered}
use Rattle.stage_store.proofs.Publish.{one_norm_order}
use Rattle.stage_store.proofs.Closing.{sum_is_row}
use Rattle.standing_pool.specs.Parts.{IsPartSum, IsPartList, IsInSomePart}
use Rattle.standing_pool.specs.Inside.Gathered.{IsPartNumbered, GainsPart, GainsSums, AreParts}
use Rattle.standing_pool.proofs.Parts.{of_part, in_part}
use Rattle.standing_pool.proofs.Rows.{once}

abbrev with : List ℤ → List ℤ → List ℤ × List ℤ
with f g = (f, g)

-- ---- by numbers
module _ (s : StageValue) (e i w : ℕ) where
  pub part_nothing : (from : ℕ) (rows : List (List ℤ)) → GainsPart s e i w from from rows rows
  part_nothing from rows z = (λ c. inl c, λ t. elim t [ inl c ↦ c | inr h ↦ absurd (omega (arith, h.at_least, h.below)) ])

  wider : (from to from' to' : ℕ) (z : List ℤ) → from' ≤ from → to ≤ to' → IsPartNumbered s e i w from to z → IsPartNumbered s e i w from' to' z
  wider from to from' to' z a b h = record { number = h.number; at_least = omega (arith, a, h.at_least); below = omega (arith, b, h.below); place = h.place; inside = h.inside; first_is = h.first_is; rest = h.rest; sum = h.sum }

  parted : (from mid to : ℕ) (z : List ℤ) → IsPartNumbered s e i w from to z → IsPartNumbered s e i w from mid z ⊎ IsPartNumbered s e i w mid to z
  parted from mid to z h = elim (cases_lt h.number mid) [
    | inl l ↦ inl (record { number = h.number; at_least = h.at_least; below = l; place = h.place; inside = h.inside; first_is = h.first_is; rest = h.rest; sum = h.sum })
    | inr g ↦ inr (record { number = h.number; at_least = omega (arith, g); below = h.below; place = h.place; inside = h.inside; first_is = h.first_is; rest = h.rest; sum = h.sum })
  ]

  pub part_more : (from mid to : ℕ) (a b c : List (List ℤ)) → from ≤ mid → mid ≤ to → GainsPart s e i w from mid a b → GainsPart s e i w mid to b c → GainsPart s e i w from to a c
  part_more from mid to a b c l m g h z = (
    λ x. elim ((h z).0 x) [
      | inl y ↦ elim ((g z).0 y) [ inl o ↦ inl o | inr n ↦ inr (wider from mid from to z (omega arith) m n) ]
      | inr n ↦ inr (wider mid to from to z l (omega arith) n)
    ],
    λ x. elim x [
      | inl o ↦ (h z).1 (inl ((g z).1 (inl o)))
      | inr n ↦ elim (parted from mid to z n) [
        | inl t ↦ (h z).1 (inl ((g z).1 (inr t)))
        | inr t ↦ (h z).1 (inr t)
      ]
    ],
  )

  -- numbers without an irreducible sum
  pub part_gap : (from to : ℕ) (rows : List (List ℤ)) → HasNoneBetween s e from to → GainsPart s e i w from to rows rows
  part_gap from to rows none z = (λ c. inl c, λ t. elim t [ inl c ↦ c | inr h ↦ absurd (none z (record { number = h.number; at_least = h.at_least; below = h.below; sum = h.sum })) ])

  module _ (place p : ℕ) (inside : place < length s.listed) (first : (pair_at s e p).0 ≡ row_at s.listed place) where
    -- a pair whose first row is one of the part
    pub part_pair : (old new : List (List ℤ)) → place % w ≡ i → GainsNumbered s e p (p + 1) old new → GainsPart s e i w p (p + 1) old new
    part_pair old new rest g z = (
      λ c. elim ((g z).0 c) [
        | inl o ↦ inl o
        | inr n ↦ inr (record { number = n.number; at_least = n.at_least; below = n.below; place = place; inside = inside; first_is = subst (λ (k : ℕ). (pair_at s e k).0 ≡ row_at s.listed place) (omega (arith, n.at_least, n.below)) first; rest = rest; sum = n.sum })
      ],
      λ t. elim t [
        | inl o ↦ (g z).1 (inl o)
        | inr n ↦ (g z).1 (inr (record { number = n.number; at_least = n.at_least; below = n.below; sum = n.sum }))
      ],
    )

    -- a pair whose first row is one of another part
    pub other_pair : (rows : List (List ℤ)) → IsStage s → (place % w ≡ i → ⊥) → GainsPart s e i w p (p + 1) rows rows
    other_pair rows h apart z = (
      λ c. inl c,
      λ t. elim t [
        | inl c ↦ c
        | inr n ↦
            let number : n.number ≡ p = omega (arith, n.at_least, n.below) in
            let same : n.place ≡ place = once s.listed n.place place h.listed_ascending n.inside inside (sym n.first_is ∙ ap (λ (k : ℕ). (pair_at s e k).0) number ∙ first) in
            absurd (apart (ap (λ (k : ℕ). k % w) (sym same) ∙ n.rest))
      ],
    )

  module _ (pairs : ℕ) (count : pairs ≡ length (pairs_of s.listed e)) where
    part_sum : (z : List ℤ) → IsPartNumbered s e i w 0 pairs z → IsPartSum s.system.equations s.listed e i w z
    part_sum z h =
        let f : List ℤ = (pair_at s e h.number).0 in
        let g : List ℤ = (pair_at s e h.number).1 in
        let c : Contains (pairs_of s.listed e) (with f g) = Contains-get_or (pairs_of s.listed e) h.number ([], []) (omega (arith, h.below, count)) in
        let n : IsPair s.listed f g × (stage_norm f + stage_norm g ≡ e) = (numbered s.listed e f g).0 c in
        record {
          place = h.place;
          inside = h.inside;
          rest = h.rest;
          second = g;
          pair = subst (λ (x : List ℤ). IsPair s.listed x g) h.first_is n.0;
          norms = subst (λ (x : List ℤ). stage_norm x + stage_norm g ≡ e) h.first_is n.1;
          sum = subst (λ (x : List ℤ). HasSum s.system.equations x g) h.first_is h.sum.sum;
          is = subst (λ (x : List ℤ). z ≡ add x g) h.first_is h.sum.is;
          irreducible = h.sum.irreducible;
        }

    sum_part : (z : List ℤ) → IsPartSum s.system.equations s.listed e i w z → IsPartNumbered s e i w 0 pairs z
    sum_part z p =
        let f : List ℤ = row_at s.listed p.place in
        let c : Contains (pairs_of s.listed e) (with f p.second) = (numbered s.listed e f p.second).1 (p.pair, p.norms) in
        let at : pair_at s e c.0 ≡ with f p.second = get_or-default (pairs_of s.listed e) c.0 ([], []) (with f p.second) c.1 ∙ c.2 in
        record {
          number = c.0;
          at_least = omega arith;
          below = omega (arith, c.1, count);
          place = p.place;
          inside = p.inside;
          first_is = ap (λ (t : List ℤ × List ℤ). t.0) at;
          rest = p.rest;
          sum = subst (λ (t : List ℤ × List ℤ). IsSumOf s.system.equations s.listed t.0 t.1 z) (sym at) (record { sum = p.sum; is = p.is; irreducible = p.irreducible });
        }

    pub part_members : (rows : List (List ℤ)) → GainsPart s e i w 0 pairs [] rows → (z : List ℤ) → Contains rows z ↔ IsPartSum s.system.equations s.listed e i w z
    part_members rows g z = (
      λ c. elim ((g z).0 c) [ inl n ↦ absurd (contains_nothing z n) | inr h ↦ part_sum z h ],
      λ p. (g z).1 (inr (sum_part z p)),
    )

-- ---- rows in order
norms_ascend : (e : ℕ) (xs : List (List ℤ)) → ((z : List ℤ) → Contains xs z → stage_norm z ≡ e) → IsStrictlySortedBy lex_cmp xs → IsStrictlySortedBy norm_cmp xs
unfolding IsStrictlySortedBy
norms_ascend e [] h s = tt
norms_ascend e (x ∷ xs) h s = (
  each_from_contained (λ z. norm_cmp x z ≡ Less) xs (λ z c. one_norm_order x z (h x (contains_head x xs) ∙ sym (h z (contains_tail x xs z c))) ∙ each_contained (λ z. lex_cmp x z ≡ Less) xs z s.0 c),
  norms_ascend e xs (λ z c. h z (contains_tail x xs z c)) s.1,
)

-- rows of the norm's sums that are put in order
in_order_of : (s : StageValue) (e : ℕ) (P : List ℤ → Type 0) (gathered more rows : List (List ℤ)) → IsStage s → IsNextNorm s.listed s.waiting s.norm e → e ≤ largest
    → ((z : List ℤ) → Contains gathered z ↔ P z) → ((z : List ℤ) → P z → IsNewSum s.system.equations s.listed e z) → more ≡ []
    → IsListOf lex_cmp (λ z. Contains gathered z ⊎ Contains more z) rows → IsListOf norm_cmp P rows
in_order_of s e P gathered more rows h next small is new empty list =
    let nothing : (z : List ℤ) → Contains more z → ⊥ = λ z c. contains_nothing z (subst (λ (l : List (List ℤ)). Contains l z) empty c) in
    let members : (z : List ℤ) → Contains rows z ↔ P z = λ z. (
      λ c. elim ((list.members z).0 c) [ inl a ↦ (is z).0 a | inr n ↦ absurd (nothing z n) ],
      λ p. (list.members z).1 (inl ((is z).1 p)),
    ) in
    record {
      ascending = norms_ascend e rows (λ z c. (sum_is_row s e z h (omega (arith, next.above)) small (new z ((members z).0 c))).1) list.ascending;
      members = members;
    }

pub part_list : (s : StageValue) (e i w pairs : ℕ) (gathered more rows : List (List ℤ)) → IsStage s → IsNextNorm s.listed s.waiting s.norm e → e ≤ largest → pairs ≡ length (pairs_of s.listed e)
    → GainsPart s e i w 0 pairs [] gathered → more ≡ [] → IsListOf lex_cmp (λ z. Contains gathered z ⊎ Contains more z) rows → IsPartList s.system.equations s.listed e i w rows
part_list s e i w pairs gathered more rows h next small count g empty list =
    in_order_of s e (IsPartSum s.system.equations s.listed e i w) gathered more rows h next small (part_members s e i w pairs count gathered g) (λ z p. of_part s.system.equations s.listed e i w z p) empty list

-- ---- several parts
pub no_parts_yet : (s : StageValue) (e w : ℕ) → AreParts s e w 0 []
no_parts_yet s e w z = (λ c. absurd (contains_nothing z c), λ h. absurd (omega (arith, h.1)))

pub one_part_more : (s : StageValue) (e w n : ℕ) (a b : List (List ℤ)) → AreParts s e w n a → GainsSums s e n w a b → AreParts s e w (n + 1) b
one_part_more s e w n a b h g z = (
  λ c. elim ((g z).0 c) [
    | inl o ↦ let p : (i : ℕ) × (i < n) × IsPartSum s.system.equations s.listed e i w z = (h z).0 o in (p.0, omega (arith, p.1), p.2)
    | inr p ↦ (n, omega arith, p)
  ],
  λ p. elim (cases_lt p.0 n) [
    | inl l ↦ (g z).1 (inl ((h z).1 (p.0, l, p.2)))
    | inr l ↦ let same : p.0 ≡ n = omega (arith, l, p.1) in (g z).1 (inr (subst (λ (k : ℕ). IsPartSum s.system.equations s.listed e k w z) same p.2))
  ],
)

pub gains_list : (s : StageValue) (e i w : ℕ) (old more new : List (List ℤ)) → IsPartList s.system.equations s.listed e i w more → new ≡ old ++ more → GainsSums s e i w old new
gains_list s e i w old more new list is z = (
  λ c. elim (Contains-append_cases old more z (subst (λ (l : List (List ℤ)). Contains l z) is c)) [
    | inl a ↦ inl a
    | inr b ↦ inr ((list.members z).0 b)
  ],
  λ t. subst (λ (l : List (List ℤ)). Contains l z) (sym is) (elim t [
    | inl a ↦ Contains-append_left old more z a
    | inr p ↦ Contains-append_right old more z ((list.members z).1 p)
  ]),
)

-- all parts in order are the norm's sums
pub all_parts : (s : StageValue) (e w : ℕ) (gathered more rows : List (List ℤ)) → 0 < w → IsStage s → IsNextNorm s.listed s.waiting s.norm e → e ≤ largest
    → AreParts s e w w gathered → more ≡ [] → IsListOf lex_cmp (λ z. Contains gathered z ⊎ Contains more z) rows → IsListOf norm_cmp (IsNewSum s.system.equations s.listed e) rows
all_parts s e w gathered more rows some h next small g empty list =
    in_order_of s e (IsNewSum s.system.equations s.listed e) gathered more rows h next small
    (λ z. (
      λ c. let p : IsInSomePart s.system.equations s.listed e w z = (g z).0 c in of_part s.system.equations s.listed e p.0 w z p.2,
      λ n. (g z).1 (in_part s.system.equations s.listed e w some z n),
    ))
    (λ z n. n) empty list
