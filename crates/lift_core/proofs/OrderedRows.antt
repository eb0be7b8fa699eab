-- Rows behind references that are sorted and kept once are the ascending list of the same rows.
use Rattle.std.proofs.Common.{◌≡◌, ◌≤◌, List, length, sym, subst, ◌∙◌, Bool, true, arith, Ordering, refl}
use Rattle.std.specs.Prelude.{ℤ}
use Rattle.std.specs.Borrow.{Bor}
use Rattle.std.specs.List.{Contains, dedup, Any}
use Rattle.std.specs.List.Sorted.{IsPermutation, IsSorted, IsStrictlySortedBy}
use Rattle.std.specs.Ordering.{int_cmp, int_eq}
use Rattle.std.specs.Cmp.{IsTotalOrder, on_total, int_eq_equiv, on_equiv}
use Rattle.std.specs.Cmp.Lexicographic.{pointwise, lists_equiv, lists_ties}
use Rattle.std.specs.Cmp.Rules.{signed_items}
use Rattle.std.proofs.lemmas.List.{length-map}
use Rattle.std.proofs.lemmas.List.Kept.{IsStrictlySortedBy-dedup, Contains-from_dedup, Any-dedup}
use Rattle.std.proofs.lemmas.List.Sorted.{Contains-permutation, IsPermutation-sym}
use Rattle.int_vector.specs.Vectors.{lex_cmp}
use Rattle.lift_core.proofs.Lists.{each_from_contained}
use Rattle.lift_core.proofs.Orders.{in_map, from_map, map_ascending, lex_cmp_total}
use Rattle.lift_core.specs.Inside.OrderedRows.{rows_behind, IsOrdered}

-- whether two references have the same row behind them, and which comes first
abbrev pub same_behind : Bor (List ℤ) → Bor (List ℤ) → Bool
same_behind x y = pointwise int_eq x.now y.now

abbrev pub cmp_behind : Bor (List ℤ) → Bor (List ℤ) → Ordering
cmp_behind x y = lex_cmp x.now y.now

pub cmp_behind_total : IsTotalOrder cmp_behind
cmp_behind_total = on_total (λ x. x.now) lex_cmp_total

ascending_behind : (refs : List (Bor (List ℤ))) → IsStrictlySortedBy cmp_behind refs → IsStrictlySortedBy lex_cmp (rows_behind refs)
ascending_behind refs h = map_ascending (λ r. r.now) cmp_behind lex_cmp (λ _. Unit {0}) (λ a b p q e. e) refs (each_from_contained (λ _. Unit {0}) refs (λ r c. tt)) h

module _ (before mid after : List (Bor (List ℤ))) (moved : IsPermutation before mid) (once : after ≡ dedup same_behind mid) where
  was_there : (x : List ℤ) → Contains (rows_behind after) x → Contains (rows_behind before) x
  was_there x c =
      let r : (r : Bor (List ℤ)) × Contains after r × (x ≡ r.now) = from_map (λ r. r.now) after x c in
      subst (Contains (rows_behind before)) (sym r.2)
      (in_map (λ r. r.now) before r.0 (Contains-permutation mid before r.0 (IsPermutation-sym before mid moved) (Contains-from_dedup same_behind mid r.0 (subst (λ l. Contains l r.0) once r.1))))

  is_there : (x : List ℤ) → Contains (rows_behind before) x → Contains (rows_behind after) x
  is_there x c =
      let r : (r : Bor (List ℤ)) × Contains before r × (x ≡ r.now) = from_map (λ r. r.now) before x c in
      let k : Any (λ y. same_behind r.0 y ≡ true) (dedup same_behind mid) = Any-dedup (on_equiv (λ x. x.now) (lists_equiv int_eq_equiv)) mid r.0 (Contains-permutation before mid r.0 moved r.1) in
      let same : x ≡ (k.1).now = r.2 ∙ (signed_items (r.0).now (k.1).now).0 k.4 in
      subst (Contains (rows_behind after)) (sym same) (in_map (λ r. r.now) after k.1 (subst (λ l. Contains l k.1) (sym once) (k.0, k.2, k.3)))

  pub rows_kept_once : IsSorted cmp_behind mid → length after ≤ length before → IsOrdered (rows_behind before) (rows_behind after)
  rows_kept_once up fewer = record {
    ascending = ascending_behind after (subst (IsStrictlySortedBy cmp_behind) (sym once) (IsStrictlySortedBy-dedup cmp_behind_total (λ x y. lists_ties int_cmp (λ a b. refl) x.now y.now) mid up));
    members = λ x. (was_there x, is_there x);
    count = omega (arith, length-map after (λ r. r.now), length-map before (λ r. r.now));
  }
