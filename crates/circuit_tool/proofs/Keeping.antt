-- The words that are kept, and the rows that are kept by them.
use Rattle.std.proofs.Common.{◌≡◌, ℕ, zero, suc, ◌+◌, ◌*◌, ◌<◌, List, [], ◌∷◌, ◌++◌, length, get_or, drop, refl, ap, ap₂, sym, ◌∙◌, subst, arith, inl, inr, ◌⊎◌, Bool, true, false, append_assoc, length-take, length-drop}
use Rattle.std.specs.Prelude.{ℤ, ◌==◌, ◌&&◌, not, Contains, ◌↔◌}
use Rattle.std.specs.Borrow.{Bor}
use Rattle.std.specs.List.{AllByRecursion, list_any, filter, dedup, Any}
use Rattle.std.specs.List.Sorted.{IsPermutation}
use Rattle.std.specs.Cmp.{nat_eq_equiv}
use Rattle.std.proofs.lemmas.Bool.{eq-eqb, eqb-true}
use Rattle.std.proofs.lemmas.List.{drop_more}
use Rattle.std.proofs.lemmas.List.Elements.{Contains-push_cases}
use Rattle.std.proofs.lemmas.List.Folds.{Any-from_list_any, list_any-from_Any}
use Rattle.std.proofs.lemmas.List.Kept.{Contains-from_dedup, Any-dedup}
use Rattle.std.proofs.lemmas.List.Sorted.{Contains-permutation, IsPermutation-sym}
use Rattle.int_vector.specs.Range.{InRange}
use Rattle.lift_core.specs.Lists.{cut_rows}
use Rattle.lift_core.proofs.Lists.{contains_cases, contains_head, contains_tail, contains_nothing, each_contained}
use Rattle.lift_core.proofs.Orders.{in_filter, from_filter}
use Rattle.lift_core.specs.Inside.OrderedRows.{rows_behind, IsOrdered}
use Rattle.solution_files.specs.Steps.{AreRows}
use Rattle.solution_files.proofs.SelectedRows.{behind_pushed}
use Rattle.circuit_tool.specs.Circuits.{IsLeastRow, AreLeastRows}
use Rattle.circuit_tool.specs.Inside.Supports.{word_of, is_within, is_strictly_within, words_in, least_from, AreLeast, is_kept}
use Rattle.circuit_tool.proofs.Words.{strict_of_test, test_of_strict, strict_below, nonzero_of_word, word_of_nonzero}
use Rattle.std.specs.Int.Bits.{and_self}

-- ---- the words of the rows
words_taken : (r : List ℤ) (rows : List (List ℤ)) → (word_of r == 0) ≡ false → words_in (r ∷ rows) ≡ word_of r ∷ words_in rows
words_taken r rows e = rw e

words_passed : (r : List ℤ) (rows : List (List ℤ)) → (word_of r == 0) ≡ true → words_in (r ∷ rows) ≡ words_in rows
words_passed r rows e = rw e

pub word_pushed : (rows : List (List ℤ)) (i w : ℕ) (r : List ℤ) (done done' whole : List ℕ) → i < length rows → r ≡ get_or rows i [] → w ≡ word_of r → (w == 0) ≡ false →
    done' ≡ done ++ w ∷ [] → done ++ words_in (drop i rows) ≡ whole → done' ++ words_in (drop (i + 1) rows) ≡ whole
word_pushed rows i w r done done' whole l is e f p h =
    let split : words_in (drop i rows) ≡ w ∷ words_in (drop (i + 1) rows) =
    ap words_in (drop_more rows i [] l ∙ ap (λ x. x ∷ drop (i + 1) rows) (sym is))
    ∙ words_taken r (drop (i + 1) rows) (ap (λ n. n == 0) (sym e) ∙ f) ∙ ap (λ n. n ∷ words_in (drop (i + 1) rows)) (sym e) in
    ap (λ d. d ++ words_in (drop (i + 1) rows)) p ∙ append_assoc done (w ∷ []) (words_in (drop (i + 1) rows)) ∙ ap (λ t. done ++ t) (sym split) ∙ h

pub word_left : (rows : List (List ℤ)) (i w : ℕ) (r : List ℤ) (done whole : List ℕ) → i < length rows → r ≡ get_or rows i [] → w ≡ word_of r → (w == 0) ≡ true →
    done ++ words_in (drop i rows) ≡ whole → done ++ words_in (drop (i + 1) rows) ≡ whole
word_left rows i w r done whole l is e f h =
    ap (λ t. done ++ t)
    (sym (ap words_in (drop_more rows i [] l ∙ ap (λ x. x ∷ drop (i + 1) rows) (sym is)) ∙ words_passed r (drop (i + 1) rows) (ap (λ n. n == 0) (sym e) ∙ f))) ∙ h

pub word_there : (rows : List (List ℤ)) (r : List ℤ) → Contains rows r → not (word_of r == 0) ≡ true → Contains (words_in rows) (word_of r)
word_there [] r c n = absurd (contains_nothing r c)
word_there (s ∷ rows) r c n =
    elim (word_of s == 0) as (λ b. (word_of s == 0) ≡ b → Contains (words_in (s ∷ rows)) (word_of r)) [
      | true ↦ λ e. subst (λ (ws : List ℕ). Contains ws (word_of r)) (sym (words_passed s rows e))
          (elim (contains_cases s rows r c) [
            | inl is ↦ absurd (let f : (word_of r == 0) ≡ true = ap (λ v. word_of v == 0) (sym is) ∙ e in clash (word_of r == 0) f n)
            | inr d ↦ word_there rows r d n
          ])
      | false ↦ λ e. subst (λ (ws : List ℕ). Contains ws (word_of r)) (sym (words_taken s rows e))
          (elim (contains_cases s rows r c) [
            | inl is ↦ subst (Contains (word_of s ∷ words_in rows)) (ap word_of is) (contains_head (word_of s) (words_in rows))
            | inr d ↦ contains_tail (word_of s) (words_in rows) (word_of r) (word_there rows r d n)
          ])
    ] refl
  where
    clash : (b : Bool) → b ≡ true → not b ≡ true → ⊥
    clash true e f = cc
    clash false e f = cc

pub word_from_there : (rows : List (List ℤ)) (w : ℕ) → Contains (words_in rows) w → (r : List ℤ) × Contains rows r × (w ≡ word_of r) × (not (word_of r == 0) ≡ true)
word_from_there [] w c = absurd (contains_nothing w c)
word_from_there (s ∷ rows) w c =
    elim (word_of s == 0) as (λ b. (word_of s == 0) ≡ b → (r : List ℤ) × Contains (s ∷ rows) r × (w ≡ word_of r) × (not (word_of r == 0) ≡ true)) [
      | true ↦ λ e.
          let q = word_from_there rows w (subst (λ (ws : List ℕ). Contains ws w) (words_passed s rows e) c) in (q.0, contains_tail s rows q.0 q.1, q.2, q.3)
      | false ↦ λ e. elim (contains_cases (word_of s) (words_in rows) w (subst (λ (ws : List ℕ). Contains ws w) (words_taken s rows e) c)) [
        | inl is ↦ (s, contains_head s rows, sym is, ap not e)
        | inr d ↦ let q = word_from_there rows w d in (q.0, contains_tail s rows q.0 q.1, q.2, q.3)
      ]
    ] refl

-- ---- sorted, and each once
pub same_words : (old mid new : List ℕ) → IsPermutation old mid → new ≡ dedup (λ x y. x == y) mid → (w : ℕ) → Contains new w ↔ Contains old w
same_words old mid new moved once w = (
  λ c. Contains-permutation mid old w (IsPermutation-sym old mid moved) (Contains-from_dedup (λ x y. x == y) mid w (subst (λ (l : List ℕ). Contains l w) once c)),
  λ c.
      let k : Any (λ y. (w == y) ≡ true) (dedup (λ x y. x == y) mid) = Any-dedup nat_eq_equiv mid w (Contains-permutation old mid w moved c) in
      let same : w ≡ k.1 = eqb-true w k.1 k.4 in
      subst (λ (l : List ℕ). Contains l w) (sym once) (subst (Contains (dedup (λ x y. x == y) mid)) (sym same) (k.0, k.2, k.3)),
)

-- ---- the least words
least_kept : (kept : List ℕ) (w : ℕ) (words : List ℕ) → list_any (λ k. is_within k w) kept ≡ true → least_from kept (w ∷ words) ≡ least_from kept words
least_kept kept w words e = rw e

least_grown : (kept : List ℕ) (w : ℕ) (words : List ℕ) → list_any (λ k. is_within k w) kept ≡ false → least_from kept (w ∷ words) ≡ least_from (kept ++ w ∷ []) words
least_grown kept w words e = rw e

pub least_passed : (kept words : List ℕ) (i d : ℕ) (whole : List ℕ) → i < length words → list_any (λ k. is_within k (get_or words i d)) kept ≡ true →
    least_from kept (drop i words) ≡ whole → least_from kept (drop (i + 1) words) ≡ whole
least_passed kept words i d whole l e h = sym (least_kept kept (get_or words i d) (drop (i + 1) words) e) ∙ ap (least_from kept) (sym (drop_more words i d l)) ∙ h

pub least_taken : (kept kept' words : List ℕ) (i d : ℕ) (whole : List ℕ) → i < length words → list_any (λ k. is_within k (get_or words i d)) kept ≡ false →
    kept' ≡ kept ++ get_or words i d ∷ [] → least_from kept (drop i words) ≡ whole → least_from kept' (drop (i + 1) words) ≡ whole
least_taken kept kept' words i d whole l e p h =
    ap (λ k. least_from k (drop (i + 1) words)) p ∙ sym (least_grown kept (get_or words i d) (drop (i + 1) words) e) ∙ ap (least_from kept) (sym (drop_more words i d l)) ∙ h

test : (kept : List ℕ) (w : ℕ) → (list_any (λ k. is_within k w) kept ≡ true) ⊎ (list_any (λ k. is_within k w) kept ≡ false)
test kept w = elim (list_any (λ k. is_within k w) kept) as (λ b. (b ≡ true) ⊎ (b ≡ false)) [ true ↦ inl refl | false ↦ inr refl ]

push_front : (kept : List ℕ) (w k : ℕ) → Contains kept k → Contains (kept ++ w ∷ []) k
push_front [] w k c = absurd (contains_nothing k c)
push_front (h ∷ kept) w k c =
    elim (contains_cases h kept k c) [
      | inl e ↦ subst (Contains (h ∷ (kept ++ w ∷ []))) e (contains_head h (kept ++ w ∷ []))
      | inr d ↦ contains_tail h (kept ++ w ∷ []) k (push_front kept w k d)
    ]

push_last : (kept : List ℕ) (w : ℕ) → Contains (kept ++ w ∷ []) w
push_last [] w = contains_head w []
push_last (h ∷ kept) w = contains_tail h (kept ++ w ∷ []) w (push_last kept w)

stays : (words kept : List ℕ) (k : ℕ) → Contains kept k → Contains (least_from kept words) k
stays [] kept k c = c
stays (w ∷ words) kept k c =
    elim (test kept w) [
      | inl e ↦ subst (λ (l : List ℕ). Contains l k) (sym (least_kept kept w words e)) (stays words kept k c)
      | inr e ↦ subst (λ (l : List ℕ). Contains l k) (sym (least_grown kept w words e)) (stays words (kept ++ w ∷ []) k (push_front kept w k c))
    ]

came_from : (words kept : List ℕ) (k : ℕ) → Contains (least_from kept words) k → Contains kept k ⊎ Contains words k
came_from [] kept k c = inl c
came_from (w ∷ words) kept k c =
    elim (test kept w) [
      | inl e ↦ elim (came_from words kept k (subst (λ (l : List ℕ). Contains l k) (least_kept kept w words e) c)) [ inl d ↦ inl d | inr d ↦ inr (contains_tail w words k d) ]
      | inr e ↦ elim (came_from words (kept ++ w ∷ []) k (subst (λ (l : List ℕ). Contains l k) (least_grown kept w words e) c)) [
        | inl d ↦ elim (Contains-push_cases kept w k d) [ inl a ↦ inl a | inr a ↦ inr (subst (Contains (w ∷ words)) a (contains_head w words)) ]
        | inr d ↦ inr (contains_tail w words k d)
      ]
    ]

itself : (w : ℕ) → is_within w w ≡ true
itself w = eq-eqb _ w (and_self w)

one_below : (words kept : List ℕ) (w : ℕ) → Contains words w → (k : ℕ) × Contains (least_from kept words) k × (is_within k w ≡ true)
one_below [] kept w c = absurd (contains_nothing w c)
one_below (v ∷ words) kept w c =
    elim (contains_cases v words w c) [
      | inr d ↦ elim (test kept v) [
        | inl e ↦ let r = one_below words kept w d in (r.0, subst (λ (l : List ℕ). Contains l r.0) (sym (least_kept kept v words e)) r.1, r.2)
        | inr e ↦ let r = one_below words (kept ++ v ∷ []) w d in (r.0, subst (λ (l : List ℕ). Contains l r.0) (sym (least_grown kept v words e)) r.1, r.2)
      ]
      | inl is ↦ elim (test kept v) [
        | inl e ↦
            let a : Any (λ k. is_within k v ≡ true) kept = Any-from_list_any (λ k. is_within k v) kept e in
            (a.1, subst (λ (l : List ℕ). Contains l a.1) (sym (least_kept kept v words e)) (stays words kept a.1 (a.0, a.2, a.3)), subst (λ (n : ℕ). is_within a.1 n ≡ true) is a.4)
        | inr e ↦ (v, subst (λ (l : List ℕ). Contains l v) (sym (least_grown kept v words e)) (stays words (kept ++ v ∷ []) v (push_last kept v)), subst (λ (n : ℕ). is_within v n ≡ true) is (itself v))
      ]
    ]

pub are_least : (rows ordered kept : List ℕ) → ((w : ℕ) → Contains ordered w ↔ Contains rows w) → kept ≡ least_from [] ordered → AreLeast rows kept
are_least rows ordered kept same is = record {
  among = λ k c. elim (came_from ordered [] k (subst (λ (l : List ℕ). Contains l k) is c)) [ inl d ↦ absurd (contains_nothing k d) | inr d ↦ (same k).0 d ];
  below = λ w c. let r = one_below ordered [] w ((same w).1 c) in (r.0, subst (λ (l : List ℕ). Contains l r.0) (sym is) r.1, r.2);
}

-- ---- the rows
pub rows_long : (m w : ℕ) (cells : List ℤ) → length cells ≡ m * w → AllByRecursion (λ r. length r ≡ w) (cut_rows m w cells)
rows_long zero w cells h = tt
rows_long (suc m) w cells h = (omega (arith, length-take w cells), rows_long m w (drop w cells) (omega (arith, length-drop w cells)))

pub lengths_of : (n : ℕ) (rows : List (List ℤ)) → AreRows n rows → AllByRecursion (λ r. length r ≡ n) rows
lengths_of n [] h = tt
lengths_of n (r ∷ rows) h = ((h.0).0, lengths_of n rows h.1)

filter_taken : (p : List ℤ → Bool) (r : List ℤ) (rows : List (List ℤ)) → p r ≡ true → filter p (r ∷ rows) ≡ r ∷ filter p rows
filter_taken p r rows e = rw e

filter_passed : (p : List ℤ → Bool) (r : List ℤ) (rows : List (List ℤ)) → p r ≡ false → filter p (r ∷ rows) ≡ filter p rows
filter_passed p r rows e = rw e

pub row_pushed : (p : List ℤ → Bool) (rows : List (List ℤ)) (i : ℕ) (refs refs' : List (Bor (List ℤ))) (r : Bor (List ℤ)) (whole : List (List ℤ)) → i < length rows → r.now ≡ get_or rows i [] → p r.now ≡ true →
    refs' ≡ refs ++ r ∷ [] → rows_behind refs ++ filter p (drop i rows) ≡ whole → rows_behind refs' ++ filter p (drop (i + 1) rows) ≡ whole
row_pushed p rows i refs refs' r whole l is e pushed h =
    let split : filter p (drop i rows) ≡ r.now ∷ filter p (drop (i + 1) rows) =
    ap (filter p) (drop_more rows i [] l ∙ ap (λ x. x ∷ drop (i + 1) rows) (sym is)) ∙ filter_taken p r.now (drop (i + 1) rows) e in
    ap (λ t. rows_behind t ++ filter p (drop (i + 1) rows)) pushed ∙ ap (λ t. t ++ filter p (drop (i + 1) rows)) (behind_pushed refs r)
    ∙ append_assoc (rows_behind refs) (r.now ∷ []) (filter p (drop (i + 1) rows)) ∙ ap (λ t. rows_behind refs ++ t) (sym split) ∙ h

pub row_left : (p : List ℤ → Bool) (rows : List (List ℤ)) (i : ℕ) (refs : List (Bor (List ℤ))) (r : List ℤ) (whole : List (List ℤ)) → i < length rows → r ≡ get_or rows i [] → p r ≡ false →
    rows_behind refs ++ filter p (drop i rows) ≡ whole → rows_behind refs ++ filter p (drop (i + 1) rows) ≡ whole
row_left p rows i refs r whole l is e h =
    ap (λ t. rows_behind refs ++ t)
    (sym (ap (filter p) (drop_more rows i [] l ∙ ap (λ x. x ∷ drop (i + 1) rows) (sym is)) ∙ filter_passed p r (drop (i + 1) rows) e)) ∙ h

each_pushed : (P : List ℤ → Type 0) (rows : List (List ℤ)) (r : List ℤ) → AllByRecursion P rows → P r → AllByRecursion P (rows ++ r ∷ [])
each_pushed P [] r h p = (p, tt)
each_pushed P (s ∷ rows) r h p = (h.0, each_pushed P rows r h.1 p)

pub shape_pushed : (n : ℕ) (refs refs' : List (Bor (List ℤ))) (r : Bor (List ℤ)) → refs' ≡ refs ++ r ∷ [] → length r.now ≡ n → AllByRecursion InRange r.now → AreRows n (rows_behind refs) → AreRows n (rows_behind refs')
shape_pushed n refs refs' r e l h k =
    subst (AreRows n) (sym (ap rows_behind e ∙ behind_pushed refs r)) (each_pushed (λ row. (length row ≡ n) × AllByRecursion InRange row) (rows_behind refs) r.now k (l, h))

and_parts : (p q : Bool) → (p && q) ≡ true → (p ≡ true) × (q ≡ true)
and_parts true q e = (refl, e)
and_parts false q e = cc

not_any : (p : ℕ → Bool) (xs : List ℕ) → not (list_any p xs) ≡ true → (k : ℕ) → Contains xs k → p k ≡ true → ⊥
not_any p xs h k c e =
    let any : list_any p xs ≡ true = list_any-from_Any p xs (c.0, k, c.1, c.2, e) in cc

none_of : (p : ℕ → Bool) (xs : List ℕ) → ((k : ℕ) → Contains xs k → p k ≡ true → ⊥) → not (list_any p xs) ≡ true
none_of p xs h =
    elim (list_any p xs) as (λ b. list_any p xs ≡ b → not b ≡ true) [
      | false ↦ λ e. refl
      | true ↦ λ e. let a : Any (λ k. p k ≡ true) xs = Any-from_list_any p xs e in absurd (h a.1 (a.0, a.2, a.3) a.4)
    ] refl

module _ (n : ℕ) (set : List (List ℤ)) (kept : List ℕ) (long : AllByRecursion (λ r. length r ≡ n) set) (least : AreLeast (words_in set) kept) where
  long_row : (r : List ℤ) → Contains set r → length r ≡ n
  long_row r c = each_contained (λ v. length v ≡ n) set r long c

  least_of_kept : (u : List ℤ) → Contains set u → is_kept kept u ≡ true → IsLeastRow set u
  least_of_kept u c h =
      let p = and_parts (not (word_of u == 0)) (not (list_any (λ k. is_strictly_within k (word_of u)) kept)) h in record {
        there = c;
        nonzero = nonzero_of_word u p.0;
        least = λ w there nonzero inside.
            let in_words : Contains (words_in set) (word_of w) = word_there set w there (word_of_nonzero w nonzero) in
            let b = least.below (word_of w) in_words in
            let strict : is_strictly_within (word_of w) (word_of u) ≡ true = test_of_strict w u (long_row w there ∙ sym (long_row u c)) inside in
            not_any (λ k. is_strictly_within k (word_of u)) kept p.1 b.0 b.1 (strict_below b.0 (word_of w) (word_of u) b.2 strict);
      }

  kept_of_least : (u : List ℤ) → IsLeastRow set u → is_kept kept u ≡ true
  kept_of_least u h =
      ap₂ (λ p q. p && q) (word_of_nonzero u h.nonzero)
      (none_of (λ k. is_strictly_within k (word_of u)) kept (λ k c e.
      let q = word_from_there set k (least.among k c) in
      h.least q.0 q.1 (nonzero_of_word q.0 q.3)
      (strict_of_test q.0 u (long_row q.0 q.1 ∙ sym (long_row u h.there)) (subst (λ (m : ℕ). is_strictly_within m (word_of u) ≡ true) q.2 e))))

  pub kept_are_least : (before after : List (List ℤ)) → before ≡ filter (is_kept kept) set → IsOrdered before after → AreLeastRows set after
  kept_are_least before after is ordered = record {
    ascending = ordered.ascending;
    members = λ u. (
      λ c.
          let f = from_filter (is_kept kept) set u (subst (λ (l : List (List ℤ)). Contains l u) is ((ordered.members u).0 c)) in
          least_of_kept u f.0 f.1,
      λ h. (ordered.members u).1 (subst (λ (l : List (List ℤ)). Contains l u) (sym is) (in_filter (is_kept kept) set u h.there (kept_of_least u h))),
    );
  }
