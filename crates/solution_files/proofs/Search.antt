-- A binary search finds each row of an ascending list of rows behind references.
use Rattle.std.proofs.Common.{◌≡◌, inl, inr, ℕ, zero, suc, ◌<◌, ◌≤◌, ◌+◌, List, [], ◌∷◌, length, get_or, refl, sym, ap, subst, ◌∙◌, Bool, true, false, arith, Ordering, Less, Greater, Result, Ok, Err, is_ok}
use Rattle.std.specs.Prelude.{ℤ, ◌↔◌, IsTrue}
use Rattle.std.specs.Borrow.{Bor}
use Rattle.std.specs.List.{Contains, dedup, Any}
use Rattle.std.specs.List.Sorted.{IsPermutation, IsSorted, IsSortedBy, IsStrictlySortedBy, IsBinarySearchResult, IsSearchInRange, IsPartitionPoint}
use Rattle.std.specs.Ordering.{int_cmp, int_eq, is_lt, ordering_reverse}
use Rattle.std.specs.Cmp.{IsTotalOrder, on_total, int_eq_equiv, on_equiv}
use Rattle.std.specs.Cmp.Lexicographic.{pointwise, lists_equiv, lists_ties}
use Rattle.std.specs.Cmp.Rules.{signed_items}
use Rattle.std.proofs.lemmas.Bool.{cases_lt}
use Rattle.std.proofs.lemmas.List.{length-map, get_or-map}
use Rattle.std.proofs.lemmas.List.Kept.{IsStrictlySortedBy-dedup, Contains-from_dedup, Any-dedup}
use Rattle.std.proofs.lemmas.List.Sorted.{Contains-permutation, IsPermutation-sym, searchable_from_sorted}
use Rattle.int_vector.specs.Vectors.{lex_cmp}
use Rattle.lift_core.proofs.Lists.{each_from_contained, not_before_itself}
use Rattle.lift_core.proofs.Orders.{in_map, from_map, map_ascending, lex_cmp_total, lex_same}
use Rattle.std.specs.Bool.{one_answer}
use Rattle.std.specs.Fn.{Called, ReturnsEach, AlwaysReturns}
use denote.Param.Members.{Mut}
use Rattle.lift_core.specs.Inside.OrderedRows.{rows_behind}
use Rattle.lift_core.proofs.OrderedRows.{cmp_behind}
use Rattle.solution_files.specs.Steps.{is_among}
use Rattle.solution_files.proofs.SelectedRows.{contains_from_among, among_from_contains}

-- a closure whose calls leave it as it is answers each as the first
module _ {F X R : Type 0} (g : Mut F X R) (P : X → R → Type 0) (f : F) (h : (a : X) (r : R) (f' : F) → Called g f a r f' → P a r × (f' ≡ f)) where
  each_answers : (xs : List X) → ReturnsEach g P f xs
  each_answers [] = tt
  each_answers (a ∷ xs) = λ r f' k. ((h a r f' k).0, subst (λ s. ReturnsEach g P s xs) (sym (h a r f' k).1) (each_answers xs))

  pub answers_alike : AlwaysReturns g P f
  answers_alike = record { at = each_answers }

sorted_behind : (refs : List (Bor (List ℤ))) → IsStrictlySortedBy lex_cmp (rows_behind refs) → IsSortedBy (λ a b. is_lt (cmp_behind a b)) refs
unfolding IsStrictlySortedBy
sorted_behind [] h k d low high = absurd (omega arith)
sorted_behind (a ∷ []) h k d low high = absurd (omega arith)
sorted_behind (a ∷ b ∷ refs) h zero d low high = ap is_lt (lex_cmp_total.antisymm b.now a.now ∙ ap ordering_reverse h.0.0)
sorted_behind (a ∷ b ∷ refs) h (suc k) d low high =
    let e : suc k + 1 ≡ suc (k + 1) = omega arith in
    subst (λ j. is_lt (cmp_behind (get_or (a ∷ b ∷ refs) j d) (get_or (b ∷ refs) k d)) ≡ false) (sym e) (sorted_behind (b ∷ refs) h.1 k d (omega arith) (omega arith))

not_behind_itself : (x : List ℤ) → lex_cmp x x ≡ Greater → ⊥
not_behind_itself x e = let f : Greater ≡ ordering_reverse Greater = sym e ∙ lex_cmp_total.antisymm x x ∙ ap ordering_reverse e in cc

found_behind : (refs : List (Bor (List ℤ))) (x : List ℤ) (r : Result ℕ ℕ) → IsStrictlySortedBy lex_cmp (rows_behind refs) → IsSearchInRange r (length refs) → IsBinarySearchResult (λ y. lex_cmp y.now x) refs r → Bor (List ℤ) → IsTrue (is_ok r) ↔ Contains (rows_behind refs) x
found_behind refs x (Ok i) up bound position d =
    (λ e. (i, omega (arith, bound, length-map refs (λ r. r.now)), get_or-map (λ r. r.now) refs i d x bound ∙ lex_same (get_or refs i d).now x (position d)), λ c. refl)
found_behind refs x (Err i) up bound position d =
    (λ e. cc, λ c. absurd (missed c))
  where
    parts : IsPartitionPoint (λ y. lex_cmp y.now x ≡ Less) (λ y. lex_cmp y.now x ≡ Greater) refs i
    parts = position (searchable_from_sorted lex_cmp_total (λ y. y.now) refs x (sorted_behind refs up))

    missed : Contains (rows_behind refs) x → ⊥
    missed c =
        let inside : c.0 < length refs = omega (arith, c.1, length-map refs (λ r. r.now)) in
        let here : (get_or refs c.0 d).now ≡ x = sym (get_or-map (λ r. r.now) refs c.0 d x inside) ∙ c.2 in
        elim (cases_lt c.0 i) [
          | inl l ↦ not_before_itself lex_cmp lex_cmp_total x (ap (λ v. lex_cmp v x) (sym here) ∙ parts.0 c.0 d (omega arith) l)
          | inr l ↦ not_behind_itself x (ap (λ v. lex_cmp v x) (sym here) ∙ parts.1 c.0 d l inside)
        ]

pub found_is_among : (refs : List (Bor (List ℤ))) (x : List ℤ) (r : Result ℕ ℕ) (found : Bool) → found ≡ is_ok r → IsStrictlySortedBy lex_cmp (rows_behind refs) → IsSearchInRange r (length refs) → IsBinarySearchResult (λ y. lex_cmp y.now x) refs r → Bor (List ℤ) → found ≡ is_among (rows_behind refs) x
found_is_among refs x r found is up bound position d =
    is ∙ one_answer (is_ok r) (is_among (rows_behind refs) x) (found_behind refs x r up bound position d) (contains_from_among (rows_behind refs) x, among_from_contains (rows_behind refs) x)
