-- The steps of the merge, at the rows of pools.
use Rattle.std.proofs.Common.{ℕ, ◌≡◌, ◌+◌, ◌++◌, ◌<◌, ◌≤◌, ◌∙◌, sym, arith, length, ap, ap₂, take, drop, get_or, List, [], ◌∷◌, Ordering, Less, Equal, Greater}
use Rattle.std.specs.Prelude.{ℤ}
use Rattle.std.specs.List.Sorted.{IsStrictlySortedBy}
use Rattle.std.proofs.lemmas.List.{get_or-take, length-take-le}
use Rattle.int_vector.specs.Vectors.{lex_cmp}
use Rattle.lift_core.proofs.Orders.{lex_cmp_total, lex_same}
use Rattle.stage_store.specs.Merge.{merged}
use Rattle.stage_store.proofs.Merge.{step_less, step_equal, step_greater, end_first, end_second}
use Rattle.stage_store.proofs.Sums.{take-all}

module _ (whole listed new waits sums : List (List ℤ)) (count i j : ℕ) (x y z : List ℤ) (o : Ordering)
    (within : count ≤ length waits) (l : i < count) (m : j < length sums) (x_is : x ≡ get_or waits i []) (y_is : y ≡ get_or sums j []) (o_is : o ≡ lex_cmp x y)
    (pushed : new ≡ listed ++ (z ∷ [])) (so_far : whole ≡ listed ++ merged lex_cmp (drop i (take count waits)) (drop j sums)) where
  at : get_or (take count waits) i [] ≡ x
  at = get_or-take count waits i [] l ∙ sym x_is

  inside : i < length (take count waits)
  inside = omega (arith, length-take-le count waits within, l)

  order : (r : Ordering) → o ≡ r → lex_cmp (get_or (take count waits) i []) (get_or sums j []) ≡ r
  order r e = ap₂ lex_cmp at (sym y_is) ∙ sym o_is ∙ e

  pub merge_less : IsStrictlySortedBy lex_cmp sums → o ≡ Less → z ≡ get_or waits i [] → whole ≡ new ++ merged lex_cmp (drop (i + 1) (take count waits)) (drop j sums)
  merge_less t e z_is =
      so_far ∙ step_less lex_cmp lex_cmp_total lex_same listed (take count waits) sums i j [] t inside m (order Less e)
      ∙ ap (λ (v : List (List ℤ)). v ++ merged lex_cmp (drop (i + 1) (take count waits)) (drop j sums)) (ap (λ (w : List ℤ). listed ++ (w ∷ [])) (get_or-take count waits i [] l ∙ sym z_is) ∙ sym pushed)

  pub merge_equal : IsStrictlySortedBy lex_cmp sums → o ≡ Equal → z ≡ get_or waits i [] → whole ≡ new ++ merged lex_cmp (drop (i + 1) (take count waits)) (drop (j + 1) sums)
  merge_equal t e z_is =
      so_far ∙ step_equal lex_cmp lex_cmp_total lex_same listed (take count waits) sums i j [] t inside m (order Equal e)
      ∙ ap (λ (v : List (List ℤ)). v ++ merged lex_cmp (drop (i + 1) (take count waits)) (drop (j + 1) sums)) (ap (λ (w : List ℤ). listed ++ (w ∷ [])) (get_or-take count waits i [] l ∙ sym z_is) ∙ sym pushed)

  pub merge_greater : o ≡ Greater → z ≡ get_or sums j [] → whole ≡ new ++ merged lex_cmp (drop i (take count waits)) (drop (j + 1) sums)
  merge_greater e z_is =
      so_far ∙ step_greater lex_cmp lex_cmp_total lex_same listed (take count waits) sums i j [] inside m (order Greater e)
      ∙ ap (λ (v : List (List ℤ)). v ++ merged lex_cmp (drop i (take count waits)) (drop (j + 1) sums)) (ap (λ (w : List ℤ). listed ++ (w ∷ [])) (sym z_is) ∙ sym pushed)

pub merge_first_done : (whole listed middle new waits sums : List (List ℤ)) (count i j n : ℕ) → count ≤ length waits → count ≤ i → n ≡ length sums → whole ≡ listed ++ merged lex_cmp (drop i (take count waits)) (drop j sums)
    → middle ≡ listed ++ drop i (take count waits) → new ≡ middle ++ drop j (take n sums) → new ≡ whole
merge_first_done whole listed middle new waits sums count i j n within l is so_far a b =
    b ∙ ap₂ (λ (u v : List (List ℤ)). u ++ drop j v) a (take-all sums n (omega (arith, is)))
    ∙ sym (end_first lex_cmp lex_cmp_total lex_same listed (take count waits) sums i j (omega (arith, length-take-le count waits within, l))) ∙ sym so_far

pub merge_second_done : (whole listed middle new waits sums : List (List ℤ)) (count i j n : ℕ) → length sums ≤ j → n ≡ length sums → whole ≡ listed ++ merged lex_cmp (drop i (take count waits)) (drop j sums)
    → middle ≡ listed ++ drop i (take count waits) → new ≡ middle ++ drop j (take n sums) → new ≡ whole
merge_second_done whole listed middle new waits sums count i j n l is so_far a b =
    b ∙ ap₂ (λ (u v : List (List ℤ)). u ++ drop j v) a (take-all sums n (omega (arith, is)))
    ∙ sym (end_second lex_cmp lex_cmp_total lex_same listed (take count waits) sums i j l) ∙ sym so_far
