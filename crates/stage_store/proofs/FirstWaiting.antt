-- The waiting rows of the next norm: the front of the list.
use Rattle.std.proofs.Common.{◌≡◌, ℕ, zero, suc, ◌+◌, ◌-◌, ◌≤◌, ◌<◌, List, [], ◌∷◌, ◌++◌, length, get_or, take, drop, refl, ap, sym, ◌∙◌, subst, arith, inl, inr, Less, length-drop, get_or-drop, get_or-take}
use Rattle.std.specs.Prelude.{ℤ}
use Rattle.std.specs.List.{Contains, AllByRecursion}
use Rattle.std.specs.List.Sorted.{IsStrictlySortedBy}
use Rattle.std.proofs.lemmas.Bool.{cases_eq}
use Rattle.std.proofs.lemmas.List.{take-append-drop, drop_more, length-take-le}
use Rattle.std.proofs.lemmas.List.Elements.{Contains-append_left, Contains-append_right, Contains-append_cases}
use Rattle.lift_core.specs.Lists.{IsListOf}
use Rattle.lift_core.specs.Stages.{stage_norm, norm_cmp, IsWaitingAt, IsNextNorm}
use Rattle.int_vector.specs.Vectors.{lex_cmp, largest}
use Rattle.lift_core.specs.PairSums.{IsNewSum}
use Rattle.lift_core.specs.Walks.{IsGrown, still_waiting}
use Rattle.lift_core.proofs.Lists.{contains_cases, contains_head, contains_tail, contains_nothing, each_contained, each_from_contained}
use Rattle.lift_core.proofs.Orders.{norm_cmp_total, norm_same}
use Rattle.stage_store.specs.Merge.{merged}
use Rattle.stage_store.specs.Stage.{StageValue, IsStage}
use Rattle.stage_store.proofs.StageFields.{not_more}
use Rattle.stage_store.proofs.Merge.{from_merged}
use Rattle.stage_store.proofs.Publish.{grown, still, one_norm_order, merged_by_entries}
use Rattle.stage_store.proofs.Closing.{sum_is_row}

-- the first n rows have norm e, and the next one, if there is one, has not
pub record IsFront (waiting : List (List ℤ)) (e n : ℕ) : Type 0 where
  pub within : n ≤ length waiting
  pub front : (k : ℕ) → k < n → stage_norm (get_or waiting k []) ≡ e
  pub behind : n < length waiting → stage_norm (get_or waiting n []) ≡ e → ⊥

-- as the code finds it, from place `from` up to place `to` of all rows
pub front_of : (rows : List (List ℤ)) (from to e : ℕ) → from ≤ to → to ≤ length rows → ((k : ℕ) → from ≤ k → k < to → stage_norm (get_or rows k []) ≡ e) → (to < length rows → stage_norm (get_or rows to []) ≡ e → ⊥) → IsFront (drop from rows) e (to - from)
front_of rows from to e l m h k = record {
  within = omega (arith, length-drop from rows, l, m);
  front = λ i s. ap stage_norm (get_or-drop from rows i []) ∙ h (from + i) (omega arith) (omega (arith, s));
  behind = λ s q.
      let n : from + (to - from) ≡ to = omega (arith, l) in
      k (omega (arith, s, length-drop from rows, l)) (ap (λ i. stage_norm (get_or rows i [])) (sym n) ∙ ap stage_norm (sym (get_or-drop from rows (to - from) [])) ∙ q);
}

ascends_front : (xs ys : List (List ℤ)) → IsStrictlySortedBy norm_cmp (xs ++ ys) → IsStrictlySortedBy norm_cmp xs
unfolding IsStrictlySortedBy
ascends_front [] ys s = tt
ascends_front (x ∷ xs) ys s = (each_from_contained (λ z. norm_cmp x z ≡ Less) xs (λ z c. each_contained (λ z. norm_cmp x z ≡ Less) (xs ++ ys) z s.0 (Contains-append_left xs ys z c)), ascends_front xs ys s.1)

pub ascends_drop : (n : ℕ) (xs : List (List ℤ)) → IsStrictlySortedBy norm_cmp xs → IsStrictlySortedBy norm_cmp (drop n xs)
unfolding IsStrictlySortedBy
ascends_drop zero xs s = s
ascends_drop (suc n) [] s = s
ascends_drop (suc n) (x ∷ xs) s = ascends_drop n xs s.1

head_first : (x : List ℤ) (xs : List (List ℤ)) (z : List ℤ) → IsStrictlySortedBy norm_cmp (x ∷ xs) → Contains xs z → norm_cmp x z ≡ Less
unfolding IsStrictlySortedBy
head_first x xs z s c = each_contained (λ z. norm_cmp x z ≡ Less) xs z s.0 c

-- rows of one norm in order are in the order of their entries
pub entries_ascend : (e : ℕ) (xs : List (List ℤ)) → ((z : List ℤ) → Contains xs z → stage_norm z ≡ e) → IsStrictlySortedBy norm_cmp xs → IsStrictlySortedBy lex_cmp xs
unfolding IsStrictlySortedBy
entries_ascend e [] h s = tt
entries_ascend e (x ∷ xs) h s = (
  each_from_contained (λ z. lex_cmp x z ≡ Less) xs (λ z c. sym (one_norm_order x z (h x (contains_head x xs) ∙ sym (h z (contains_tail x xs z c)))) ∙ each_contained (λ z. norm_cmp x z ≡ Less) xs z s.0 c),
  entries_ascend e xs (λ z c. h z (contains_tail x xs z c)) s.1,
)

module _ (waiting : List (List ℤ)) (e n : ℕ) (order : IsStrictlySortedBy norm_cmp waiting) (least : (z : List ℤ) → Contains waiting z → e ≤ stage_norm z) (f : IsFront waiting e n) where
  pub in_front : (z : List ℤ) → Contains (take n waiting) z → Contains waiting z
  in_front z c = subst (λ (l : List (List ℤ)). Contains l z) (take-append-drop n waiting) (Contains-append_left (take n waiting) (drop n waiting) z c)

  pub in_rest : (z : List ℤ) → Contains (drop n waiting) z → Contains waiting z
  in_rest z c = subst (λ (l : List (List ℤ)). Contains l z) (take-append-drop n waiting) (Contains-append_right (take n waiting) (drop n waiting) z c)

  pub front_norm : (z : List ℤ) → Contains (take n waiting) z → stage_norm z ≡ e
  front_norm z c =
      let l : c.0 < n = omega (arith, c.1, length-take-le n waiting f.within) in
      ap stage_norm (sym c.2 ∙ get_or-take n waiting c.0 z l ∙ default waiting c.0 (omega (arith, l, f.within))) ∙ f.front c.0 l
    where
      default : (xs : List (List ℤ)) (k : ℕ) → k < length xs → get_or xs k z ≡ get_or xs k []
      default [] k l = absurd (omega arith)
      default (x ∷ xs) zero l = refl
      default (x ∷ xs) (suc k) l = default xs k (omega arith)

  rest_norm_at : (rest : List (List ℤ)) (z : List ℤ) → drop n waiting ≡ rest → IsStrictlySortedBy norm_cmp rest → Contains rest z → e < stage_norm z
  rest_norm_at [] z is s c = absurd (contains_nothing z c)
  rest_norm_at (x ∷ rest) z is s c =
      let l : n < length waiting = omega (arith, ap length is, length-drop n waiting) in
      let x_is : x ≡ get_or waiting n [] = ap (λ (l : List (List ℤ)). get_or l 0 []) (sym is ∙ drop_more waiting n [] l) in
      let x_in : Contains waiting x = in_rest x (subst (λ (l : List (List ℤ)). Contains l x) (sym is) (contains_head x rest)) in
      let d : stage_norm x ≡ e → ⊥ = λ q. f.behind l (ap stage_norm (sym x_is) ∙ q) in
      let above : e < stage_norm x = elim (cases_eq (stage_norm x) e) [ inl q ↦ absurd (d q) | inr q ↦ omega (arith, q, least x x_in) ] in
      elim (contains_cases x rest z c) [
        | inl same ↦ omega (arith, above, ap stage_norm same)
        | inr k ↦ omega (arith, above, not_more x z (head_first x rest z s k))
      ]

  pub rest_norm : (z : List ℤ) → Contains (drop n waiting) z → e < stage_norm z
  rest_norm z c = rest_norm_at (drop n waiting) z refl (ascends_drop n waiting order) c

  pub front_ascends : IsStrictlySortedBy norm_cmp (take n waiting)
  front_ascends = ascends_front (take n waiting) (drop n waiting) (subst (λ (l : List (List ℤ)). IsStrictlySortedBy norm_cmp l) (sym (take-append-drop n waiting)) order)

  pub front_list : IsListOf norm_cmp (IsWaitingAt waiting e) (take n waiting)
  front_list = record {
    ascending = front_ascends;
    members = λ z. (
      λ c. record { waits = in_front z c; norm_is = front_norm z c },
      λ w. elim (Contains-append_cases (take n waiting) (drop n waiting) z (subst (λ (l : List (List ℤ)). Contains l z) (sym (take-append-drop n waiting)) w.waits)) [
        | inl a ↦ a
        | inr b ↦ absurd (omega (arith, rest_norm z b, w.norm_is))
      ],
    );
  }

-- ---- of a stage
pub waits_at_least : (s : StageValue) (e : ℕ) → IsStage s → IsNextNorm s.listed s.waiting s.norm e → (z : List ℤ) → Contains s.waiting z → e ≤ stage_norm z
waits_at_least s e h next z c = next.least (stage_norm z) (each_contained (λ z. s.norm < stage_norm z) s.waiting z h.waiting_norms c) (inl (z, record { waits = c; norm_is = refl }))

pub sums_norm : (s : StageValue) (e : ℕ) (sums : List (List ℤ)) → IsStage s → IsNextNorm s.listed s.waiting s.norm e → e ≤ largest → IsListOf norm_cmp (IsNewSum s.system.equations s.listed e) sums → (z : List ℤ) → Contains sums z → stage_norm z ≡ e
sums_norm s e sums h next small list z c = (sum_is_row s e z h (omega (arith, next.above)) small ((list.members z).0 c)).1

module _ (s : StageValue) (e n : ℕ) (sums : List (List ℤ)) (h : IsStage s) (next : IsNextNorm s.listed s.waiting s.norm e) (small : e ≤ largest) (list : IsListOf norm_cmp (IsNewSum s.system.equations s.listed e) sums) (f : IsFront s.waiting e n) where
  pub front_entries : IsStrictlySortedBy lex_cmp (take n s.waiting)
  front_entries = entries_ascend e (take n s.waiting) (front_norm s.waiting e n h.waiting_ascending (waits_at_least s e h next) f) (front_ascends s.waiting e n h.waiting_ascending (waits_at_least s e h next) f)

  pub sums_entries : IsStrictlySortedBy lex_cmp sums
  sums_entries = entries_ascend e sums (sums_norm s e sums h next small list) list.ascending

  by_entries : merged norm_cmp (take n s.waiting) sums ≡ merged lex_cmp (take n s.waiting) sums
  by_entries = merged_by_entries (take n s.waiting) sums e (front_norm s.waiting e n h.waiting_ascending (waits_at_least s e h next) f) (sums_norm s e sums h next small list)

  pub grown_is : (new : List (List ℤ)) → new ≡ merged lex_cmp (take n s.waiting) sums → IsGrown s.system.equations s.listed s.waiting e (s.listed ++ new)
  grown_is new is =
      subst (λ (l : List (List ℤ)). IsGrown s.system.equations s.listed s.waiting e (s.listed ++ l)) (by_entries ∙ sym is)
      (grown s.system.equations s.listed s.waiting (take n s.waiting) sums s.norm e next.above h.listed_ascending h.listed_norms
      (front_list s.waiting e n h.waiting_ascending (waits_at_least s e h next) f) list (λ z k. (sum_is_row s e z h (omega (arith, next.above)) small k).1))

  pub new_norms : (new : List (List ℤ)) → new ≡ merged lex_cmp (take n s.waiting) sums → AllByRecursion (λ z. stage_norm z ≡ e) new
  new_norms new is = each_from_contained (λ z. stage_norm z ≡ e) new (λ z c.
      elim (from_merged norm_cmp norm_cmp_total norm_same (take n s.waiting) sums z (subst (λ (l : List (List ℤ)). Contains l z) (is ∙ sym by_entries) c)) [
        | inl a ↦ front_norm s.waiting e n h.waiting_ascending (waits_at_least s e h next) f z a
        | inr b ↦ sums_norm s e sums h next small list z b
      ])

  pub still_is : drop n s.waiting ≡ still_waiting e s.waiting
  still_is = sym (still s.waiting e n (front_norm s.waiting e n h.waiting_ascending (waits_at_least s e h next) f) (rest_norm s.waiting e n h.waiting_ascending (waits_at_least s e h next) f))
