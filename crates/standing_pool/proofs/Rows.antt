-- Each row stands once in the list.
use Rattle.std.proofs.Common.{◌≡◌, ℕ, ◌<◌, List, [], length, sym, subst, arith, inl, inr, Less}
use Rattle.std.specs.Prelude.{ℤ}
use Rattle.std.specs.List.Sorted.{IsStrictlySortedBy}
use Rattle.std.proofs.lemmas.Bool.{cases_lt}
use Rattle.std.proofs.lemmas.Map.Keys.{Less-from_sorted}
use Rattle.lift_core.specs.Stages.{norm_cmp}
use Rattle.lift_core.proofs.Lists.{not_before_itself}
use Rattle.lift_core.proofs.Orders.{norm_cmp_total}
use Rattle.stage_store.specs.Classes.{row_at}

-- rows at two places are two rows
pub once : (listed : List (List ℤ)) (i j : ℕ) → IsStrictlySortedBy norm_cmp listed → i < length listed → j < length listed → row_at listed i ≡ row_at listed j → i ≡ j
once listed i j s a b e = elim (cases_lt i j) [
  | inl l ↦ absurd (not_before_itself norm_cmp norm_cmp_total (row_at listed j) (subst (λ (z : List ℤ). norm_cmp z (row_at listed j) ≡ Less) e (Less-from_sorted norm_cmp listed i j [] s l b)))
  | inr g ↦ elim (cases_lt j i) [
    | inl l ↦ absurd (not_before_itself norm_cmp norm_cmp_total (row_at listed i) (subst (λ (z : List ℤ). norm_cmp z (row_at listed i) ≡ Less) (sym e) (Less-from_sorted norm_cmp listed j i [] s l a)))
    | inr k ↦ omega (arith, g, k)
  ]
]
