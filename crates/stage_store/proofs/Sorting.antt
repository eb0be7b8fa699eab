-- The rows of pools behind references, one more at a time, and their ordered list.
use Rattle.std.proofs.Common.{◌≡◌, inl, inr, ℕ, ◌<◌, ◌+◌, List, [], ◌∷◌, length, get_or, sym, ap, subst, ◌∙◌, Result, Ok, Err}
use Rattle.std.specs.Prelude.{ℤ, ◌++◌, ◌⊎◌, take, All, IfOk}
use Rattle.std.specs.Borrow.{Bor}
use Rattle.std.specs.List.{Contains}
use Rattle.int_vector.specs.Vectors.{lex_cmp}
use Rattle.lift_core.proofs.Orders.{in_map}
use Rattle.std.proofs.lemmas.List.{map-append, append_assoc, take_more}
use Rattle.std.proofs.lemmas.List.Elements.{Contains-append_cases, Contains-append_left, Contains-append_right, Contains-get_or}
use Rattle.int_vector.specs.Range.{InRange}
use Rattle.row_pool.specs.Rows.{PoolValue}
use Rattle.lift_core.specs.Lists.{IsListOf}
use Rattle.lift_core.proofs.Lists.{contains_cases, contains_nothing}
use Rattle.lift_core.specs.Inside.OrderedRows.{rows_behind, IsOrdered}
use Rattle.stage_store.specs.Sorting.{AreFit}

-- ---- rows of a pool, one more at a time
pub pushed_behind : (refs new : List (Bor (List ℤ))) (r : Bor (List ℤ)) (z : List ℤ) → new ≡ refs ++ (r ∷ []) → r.now ≡ z → rows_behind new ≡ rows_behind refs ++ (z ∷ [])
pushed_behind refs new r z e same = ap rows_behind e ∙ map-append (λ x. x.now) refs (r ∷ []) ∙ ap (λ y. rows_behind refs ++ (y ∷ [])) same

pub one_row_more : (before now rows : List (List ℤ)) (i : ℕ) (new : List (List ℤ)) → i < length rows → now ≡ before ++ take i rows → new ≡ now ++ (get_or rows i [] ∷ []) → new ≡ before ++ take (i + 1) rows
one_row_more before now rows i new l h e = e ∙ ap (λ x. x ++ (get_or rows i [] ∷ [])) h ∙ append_assoc before (take i rows) (get_or rows i [] ∷ []) ∙ ap (λ x. before ++ x) (sym (take_more rows i [] l))

pub one_fit_more : (w : ℕ) (rows new : List (List ℤ)) (z : List ℤ) → AreFit w rows → new ≡ rows ++ (z ∷ []) → length z ≡ w → All InRange z → AreFit w new
one_fit_more w rows new z h e l r = λ y c. elim (Contains-append_cases rows (z ∷ []) y (subst (λ x. Contains x y) e c)) [
  | inl a ↦ h y a
  | inr b ↦ elim (contains_cases z [] y b) [
    | inl same ↦ subst (λ (x : List ℤ). (length x ≡ w) × All InRange x) same (l, r)
    | inr none ↦ absurd (contains_nothing y none)
  ]
]

pub fit_at : (w : ℕ) (refs : List (Bor (List ℤ))) (k : ℕ) (d : Bor (List ℤ)) → AreFit w (rows_behind refs) → k < length refs → (length (get_or refs k d).now ≡ w) × All InRange (get_or refs k d).now
fit_at w refs k d h l = h (get_or refs k d).now (in_map (λ r. r.now) refs (get_or refs k d) (Contains-get_or refs k d l))

pub row_more : (refs : List (Bor (List ℤ))) (k : ℕ) (d : Bor (List ℤ)) (rows : List (List ℤ)) → k < length refs → rows ≡ rows_behind (take k refs) → rows ++ ((get_or refs k d).now ∷ []) ≡ rows_behind (take (k + 1) refs)
row_more refs k d rows l e = sym (ap rows_behind (take_more refs k d l) ∙ map-append (λ x. x.now) (take k refs) (get_or refs k d ∷ []) ∙ ap (λ x. x ++ ((get_or refs k d).now ∷ [])) (sym e))

pub ordered_list : (first second before after rows : List (List ℤ)) → before ≡ first ++ second → IsOrdered before after → rows ≡ after → IsListOf lex_cmp (λ z. Contains first z ⊎ Contains second z) rows
ordered_list first second before after rows e h is = subst (λ l. IsListOf lex_cmp (λ z. Contains first z ⊎ Contains second z) l) (sym is) (record {
  ascending = h.ascending;
  members = λ z. (
    λ c. Contains-append_cases first second z (subst (λ l. Contains l z) e ((h.members z).0 c)),
    λ s. (h.members z).1 (subst (λ l. Contains l z) (sym e) (elim s [
      | inl a ↦ Contains-append_left first second z a
      | inr b ↦ Contains-append_right first second z b
    ])),
  );
})

pub ordered_pool : {E : Type 0} (first second before after rows : List (List ℤ)) (pool : Result PoolValue E) → before ≡ first ++ second → IsOrdered before after → rows ≡ after → IfOk pool (λ p. p.rows ≡ rows)
    → IfOk pool (λ p. IsListOf lex_cmp (λ z. Contains first z ⊎ Contains second z) p.rows)
ordered_pool first second before after rows (Ok p) e h is same = ordered_list first second before after p.rows e h (same ∙ is)
ordered_pool first second before after rows (Err x) e h is same = tt
