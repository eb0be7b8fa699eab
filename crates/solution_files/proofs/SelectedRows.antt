-- The rows of a kind in the user's columns, and the rows without those whose negative is a row too.
use Rattle.std.proofs.Common.{◌≡◌, ℕ, ◌<◌, ◌≤◌, ◌+◌, ◌*◌, List, [], ◌∷◌, ◌++◌, length, take, drop, get_or, refl, sym, ap, subst, ◌∙◌, Bool, true, false, not, ◌&&◌, arith, append-nil, append_assoc, length-append, zero, suc}
use Rattle.std.specs.Prelude.{ℤ, pos, negsuc, int_lt, neg_ℤ}
use Rattle.std.specs.Borrow.{Bor}
use Rattle.std.specs.List.{Contains, AllByRecursion, filter, flat_map, Any}
use Rattle.std.specs.Ordering.{int_eq}
use Rattle.std.specs.Cmp.{signed_Decides}
use Rattle.std.specs.Cmp.Rules.{signed_items}
use Rattle.std.specs.Cmp.Lexicographic.{pointwise}
use Rattle.std.proofs.lemmas.List.{drop_more, drop_all, map-append, length-take-le}
use Rattle.std.proofs.lemmas.List.Folds.{Any-from_list_any, list_any_at}
use Rattle.std.proofs.lemmas.List.Kept.{IsStrictlySortedBy-filter}
use Rattle.int_vector.specs.Operations.{sign, leading_entry}
use Rattle.mat_files.specs.Grids.{IsMatrix}
use Rattle.int_vector.specs.Range.{InRange}
use Rattle.lift_core.specs.declared.Tool.{Tool}
use Rattle.lift_core.specs.declared.Tool.TheVariants.{Graver, Hilbert, Zsolve}
use Rattle.lift_core.specs.Lists.{IsListOf}
use Rattle.lift_core.specs.Stages.{last}
use Rattle.int_vector.specs.Vectors.{lex_cmp, leads_negative, negated}
use Rattle.lift_core.specs.Columns.{SolutionKind, Homogeneous, Inhomogeneous, Every}
use Rattle.lift_core.specs.Kinds.{HasX0}
use Rattle.lift_core.proofs.Lists.{each_contained, each_from_contained}
use Rattle.lift_core.proofs.Orders.{in_filter, from_filter, in_map, from_map}
use Rattle.solution_files.specs.Outputs.{IsProjected, IsTaken}
use Rattle.lift_core.specs.Inside.OrderedRows.{rows_behind, IsOrdered}
use Rattle.solution_files.specs.Steps.{is_of_kind, projected, AreRows, is_among, is_left_out, without_negatives}

-- ---- the rows of a kind
home_of_kind : (kind : SolutionKind) (v : List ℤ) → is_of_kind kind v ≡ true → HasX0 kind v
home_of_kind Homogeneous v e = (signed_Decides (last v) (pos 0)).0 e
home_of_kind Inhomogeneous v e = (signed_Decides (last v) (pos 1)).0 e
home_of_kind Every v e = tt

kind_of_home : (kind : SolutionKind) (v : List ℤ) → HasX0 kind v → is_of_kind kind v ≡ true
kind_of_home Homogeneous v h = (signed_Decides (last v) (pos 0)).1 h
kind_of_home Inhomogeneous v h = (signed_Decides (last v) (pos 1)).1 h
kind_of_home Every v h = refl

not_of_kind : (kind : SolutionKind) (v : List ℤ) → (HasX0 kind v → ⊥) → is_of_kind kind v ≡ false
not_of_kind kind v other = elim (is_of_kind kind v) as (λ b. is_of_kind kind v ≡ b → is_of_kind kind v ≡ false) [ true ↦ λ e. absurd (other (home_of_kind kind v e)) | false ↦ λ e. e ] refl

in_projected : (finished : List (List ℤ)) (n : ℕ) (kind : SolutionKind) (x : List ℤ) → IsProjected finished n kind x → Contains (projected n kind finished) x
in_projected finished n kind x p =
    subst (Contains (projected n kind finished)) (sym p.is)
    (in_map (take n) (filter (is_of_kind kind) finished) p.solution (in_filter (is_of_kind kind) finished p.solution p.among (kind_of_home kind p.solution p.home)))

from_projected : (finished : List (List ℤ)) (n : ℕ) (kind : SolutionKind) (x : List ℤ) → Contains (projected n kind finished) x → IsProjected finished n kind x
from_projected finished n kind x c =
    let r : (v : List ℤ) × Contains (filter (is_of_kind kind) finished) v × (x ≡ take n v) = from_map (take n) (filter (is_of_kind kind) finished) x c in
    let f : Contains finished r.0 × (is_of_kind kind r.0 ≡ true) = from_filter (is_of_kind kind) finished r.0 r.1 in
    record { solution = r.0; among = f.0; home = home_of_kind kind r.0 f.1; is = r.2 }

-- the rows from a place on: the row at the place, if it is of the kind, and those behind it
projected_taken : (n : ℕ) (kind : SolutionKind) (row : List ℤ) (rows : List (List ℤ)) → is_of_kind kind row ≡ true → projected n kind (row ∷ rows) ≡ take n row ∷ projected n kind rows
projected_taken n kind row rows e = rw e

projected_passed : (n : ℕ) (kind : SolutionKind) (row : List ℤ) (rows : List (List ℤ)) → is_of_kind kind row ≡ false → projected n kind (row ∷ rows) ≡ projected n kind rows
projected_passed n kind row rows e = rw e

-- ---- rows behind references
pub behind_pushed : (refs : List (Bor (List ℤ))) (r : Bor (List ℤ)) → rows_behind (refs ++ r ∷ []) ≡ rows_behind refs ++ r.now ∷ []
behind_pushed refs r = map-append (λ x. x.now) refs (r ∷ [])

each_pushed : {X : Type 0} (P : X → Type 0) (xs : List X) (x : X) → AllByRecursion P xs → P x → AllByRecursion P (xs ++ x ∷ [])
each_pushed P [] x h p = (p, tt)
each_pushed P (y ∷ xs) x h p = (h.0, each_pushed P xs x h.1 p)

each_taken : {X : Type 0} (P : X → Type 0) (n : ℕ) (xs : List X) → AllByRecursion P xs → AllByRecursion P (take n xs)
each_taken P zero xs h = tt
each_taken P (suc n) [] h = tt
each_taken P (suc n) (x ∷ xs) h = (h.0, each_taken P n xs h.1)

pub each_behind : (P : List ℤ → Type 0) (refs : List (Bor (List ℤ))) (i : ℕ) (d : Bor (List ℤ)) → i < length refs → AllByRecursion P (rows_behind refs) → P (get_or refs i d).now
each_behind P [] i d l h = absurd (omega arith)
each_behind P (r ∷ refs) zero d l h = h.0
each_behind P (r ∷ refs) (suc i) d l h = each_behind P refs i d (omega arith) h.1

pub rows_small : (n : ℕ) (rows : List (List ℤ)) → AreRows n rows → AllByRecursion (λ row. AllByRecursion InRange row) rows
rows_small n [] h = tt
rows_small n (row ∷ rows) h = (h.0.1, rows_small n rows h.1)

pub rows_ordered : (n : ℕ) (before after : List (List ℤ)) → IsOrdered before after → AreRows n before → AreRows n after
rows_ordered n before after ordered shape =
    each_from_contained (λ r. (length r ≡ n) × AllByRecursion InRange r) after
    (λ x c. each_contained (λ r. (length r ≡ n) × AllByRecursion InRange r) before x shape ((ordered.members x).0 c))

pub one_more_taken : (n : ℕ) (kind : SolutionKind) (finished : List (List ℤ)) (place : ℕ) (row : List ℤ) (refs refs' : List (Bor (List ℤ))) (r : Bor (List ℤ)) (all : List (List ℤ)) → place < length finished → row ≡ get_or finished place [] → HasX0 kind row → r.now ≡ take n row → refs' ≡ refs ++ r ∷ [] →
    rows_behind refs ++ projected n kind (drop place finished) ≡ all → rows_behind refs' ++ projected n kind (drop (place + 1) finished) ≡ all
one_more_taken n kind finished place row refs refs' r all h is e first pushed so_far =
    ap (λ u. u ++ projected n kind (drop (place + 1) finished)) (ap rows_behind pushed ∙ behind_pushed refs r ∙ ap (λ v. rows_behind refs ++ v ∷ []) first)
    ∙ append_assoc (rows_behind refs) (take n row ∷ []) (projected n kind (drop (place + 1) finished))
    ∙ ap (λ u. rows_behind refs ++ u) (sym (projected_taken n kind row (drop (place + 1) finished) (kind_of_home kind row e)) ∙ ap (λ v. projected n kind (v ∷ drop (place + 1) finished)) is ∙ ap (projected n kind) (sym (drop_more finished place [] h)))
    ∙ so_far

pub one_more_passed : (n : ℕ) (kind : SolutionKind) (finished : List (List ℤ)) (place : ℕ) (row : List ℤ) (refs : List (Bor (List ℤ))) (all : List (List ℤ)) → place < length finished → row ≡ get_or finished place [] → (HasX0 kind row → ⊥) →
    rows_behind refs ++ projected n kind (drop place finished) ≡ all → rows_behind refs ++ projected n kind (drop (place + 1) finished) ≡ all
one_more_passed n kind finished place row refs all h is e so_far =
    ap (λ u. rows_behind refs ++ u) (sym (projected_passed n kind row (drop (place + 1) finished) (not_of_kind kind row e)) ∙ ap (λ v. projected n kind (v ∷ drop (place + 1) finished)) is ∙ ap (projected n kind) (sym (drop_more finished place [] h)))
    ∙ so_far

pub rows_taken : (n : ℕ) (row : List ℤ) (refs refs' : List (Bor (List ℤ))) (r : Bor (List ℤ)) → n ≤ length row → AllByRecursion InRange row → r.now ≡ take n row → refs' ≡ refs ++ r ∷ [] → AreRows n (rows_behind refs) → AreRows n (rows_behind refs')
rows_taken n row refs refs' r long small first pushed shape =
    subst (AreRows n) (sym (ap rows_behind pushed ∙ behind_pushed refs r))
    (each_pushed (λ v. (length v ≡ n) × AllByRecursion InRange v) (rows_behind refs) r.now shape
    (subst (λ v. (length v ≡ n) × AllByRecursion InRange v) (sym first) (length-take-le n row long, each_taken InRange n row small)))

-- ---- a row and its negative
pub leading_sign : (v : List ℤ) → int_lt (sign (leading_entry v)) (pos 0) ≡ leads_negative v
leading_sign [] = refl
leading_sign (pos zero ∷ v) = leading_sign v
leading_sign (pos (suc a) ∷ v) = refl
leading_sign (negsuc a ∷ v) = refl

pub among_from_contains : (rows : List (List ℤ)) (x : List ℤ) → Contains rows x → is_among rows x ≡ true
among_from_contains rows x c = list_any_at (λ row. pointwise int_eq row x) rows c.0 x c.1 ((signed_items (get_or rows c.0 x) x).1 c.2)

pub contains_from_among : (rows : List (List ℤ)) (x : List ℤ) → is_among rows x ≡ true → Contains rows x
contains_from_among rows x e =
    let found : Any (λ row. pointwise int_eq row x ≡ true) rows = Any-from_list_any (λ row. pointwise int_eq row x) rows e in
    subst (Contains rows) ((signed_items found.1 x).0 found.4) (found.0, found.2, found.3)

-- whether a row is kept
abbrev pub stays : List (List ℤ) → List ℤ → Bool
stays rows x = not (is_left_out rows x)

stays_from : (a b : Bool) → (a ≡ true → b ≡ true → ⊥) → not (a && b) ≡ true
stays_from true true h = absurd (h refl refl)
stays_from true false h = refl
stays_from false true h = refl
stays_from false false h = refl

not_both : (a b : Bool) → not (a && b) ≡ true → a ≡ true → b ≡ true → ⊥
not_both true true h a b = cc
not_both true false h a b = cc
not_both false b h a c = cc

-- ---- the selection
module _ (finished : List (List ℤ)) (n : ℕ) (kind : SolutionKind) (rows : List (List ℤ)) (ordered : IsOrdered (projected n kind finished) rows) where
  taken : (x : List ℤ) → Contains rows x → IsProjected finished n kind x
  taken x c = from_projected finished n kind x ((ordered.members x).0 c)

  is_row : (x : List ℤ) → IsProjected finished n kind x → Contains rows x
  is_row x p = (ordered.members x).1 (in_projected finished n kind x p)

  all_are_selected : IsListOf lex_cmp (IsProjected finished n kind) rows
  all_are_selected = record { ascending = ordered.ascending; members = λ x. (taken x, is_row x) }

  halves_are_selected : IsListOf lex_cmp (IsTaken Graver finished n kind) (without_negatives rows)
  halves_are_selected = record {
    ascending = IsStrictlySortedBy-filter lex_cmp (stays rows) rows ordered.ascending;
    members = λ x. (half x, is_half x);
  }
    where
      half : (x : List ℤ) → Contains (without_negatives rows) x → IsTaken Graver finished n kind x
      half x c =
          let f : Contains rows x × (stays rows x ≡ true) = from_filter (stays rows) rows x c in
          (taken x f.0, λ p l. not_both (leads_negative x) (is_among rows (negated x)) f.1 l (among_from_contains rows (negated x) (is_row (negated x) p)))

      is_half : (x : List ℤ) → IsTaken Graver finished n kind x → Contains (without_negatives rows) x
      is_half x t =
          in_filter (stays rows) rows x (is_row x t.0)
          (stays_from (leads_negative x) (is_among rows (negated x)) (λ l a. t.1 (taken (negated x) (contains_from_among rows (negated x) a)) l))

pub selected_plain : (tool : Tool) (finished : List (List ℤ)) (n : ℕ) (kind : SolutionKind) (rows : List (List ℤ)) → (tool ≡ Graver → ⊥) → IsOrdered (projected n kind finished) rows → IsListOf lex_cmp (IsTaken tool finished n kind) rows
selected_plain Graver finished n kind rows other ordered = absurd (other refl)
selected_plain Hilbert finished n kind rows other ordered = all_are_selected finished n kind rows ordered
selected_plain Zsolve finished n kind rows other ordered = all_are_selected finished n kind rows ordered

pub selected_graver : (tool : Tool) (finished : List (List ℤ)) (n : ℕ) (kind : SolutionKind) (rows kept : List (List ℤ)) → tool ≡ Graver → IsOrdered (projected n kind finished) rows → kept ≡ without_negatives rows → IsListOf lex_cmp (IsTaken tool finished n kind) kept
selected_graver tool finished n kind rows kept is ordered left =
    subst (λ t. IsListOf lex_cmp (IsTaken t finished n kind) kept) (sym is)
    (subst (IsListOf lex_cmp (IsTaken Graver finished n kind)) (sym left) (halves_are_selected finished n kind rows ordered))

pub rows_kept : (n : ℕ) (rows : List (List ℤ)) → AreRows n rows → AreRows n (without_negatives rows)
rows_kept n rows shape =
    each_from_contained (λ r. (length r ≡ n) × AllByRecursion InRange r) (without_negatives rows)
    (λ x c. each_contained (λ r. (length r ≡ n) × AllByRecursion InRange r) rows x shape (from_filter (stays rows) rows x c).0)

-- ---- loops over the references: what is done, and what is done with the rest
behind_dropped : (refs : List (Bor (List ℤ))) (i : ℕ) (r d : Bor (List ℤ)) → i < length refs → r ≡ get_or refs i d → rows_behind (drop i refs) ≡ r.now ∷ rows_behind (drop (i + 1) refs)
behind_dropped refs i r d h is = ap rows_behind (drop_more refs i d h) ∙ ap (λ x. x.now ∷ rows_behind (drop (i + 1) refs)) (sym is)

stays_kept : (all : List (List ℤ)) (x : List ℤ) (xs : List (List ℤ)) → is_left_out all x ≡ false → filter (stays all) (x ∷ xs) ≡ x ∷ filter (stays all) xs
stays_kept all x xs e = rw e

stays_left : (all : List (List ℤ)) (x : List ℤ) (xs : List (List ℤ)) → is_left_out all x ≡ true → filter (stays all) (x ∷ xs) ≡ filter (stays all) xs
stays_left all x xs e = rw e

pub one_more_kept : (all : List (List ℤ)) (refs : List (Bor (List ℤ))) (i : ℕ) (r d : Bor (List ℤ)) (kept kept' : List (Bor (List ℤ))) (whole : List (List ℤ)) → i < length refs → r ≡ get_or refs i d → is_left_out all r.now ≡ false → kept' ≡ kept ++ r ∷ [] →
    rows_behind kept ++ filter (stays all) (rows_behind (drop i refs)) ≡ whole → rows_behind kept' ++ filter (stays all) (rows_behind (drop (i + 1) refs)) ≡ whole
one_more_kept all refs i r d kept kept' whole h is e pushed so_far =
    ap (λ u. u ++ filter (stays all) (rows_behind (drop (i + 1) refs))) (ap rows_behind pushed ∙ behind_pushed kept r)
    ∙ append_assoc (rows_behind kept) (r.now ∷ []) (filter (stays all) (rows_behind (drop (i + 1) refs)))
    ∙ ap (λ u. rows_behind kept ++ u) (sym (stays_kept all r.now (rows_behind (drop (i + 1) refs)) e) ∙ ap (filter (stays all)) (sym (behind_dropped refs i r d h is)))
    ∙ so_far

pub one_more_left : (all : List (List ℤ)) (refs : List (Bor (List ℤ))) (i : ℕ) (r d : Bor (List ℤ)) (kept whole : List (List ℤ)) → i < length refs → r ≡ get_or refs i d → is_left_out all r.now ≡ true →
    kept ++ filter (stays all) (rows_behind (drop i refs)) ≡ whole → kept ++ filter (stays all) (rows_behind (drop (i + 1) refs)) ≡ whole
one_more_left all refs i r d kept whole h is e so_far =
    ap (λ u. kept ++ u) (sym (stays_left all r.now (rows_behind (drop (i + 1) refs)) e) ∙ ap (filter (stays all)) (sym (behind_dropped refs i r d h is))) ∙ so_far

pub one_more_negated : (v : List ℤ) (i : ℕ) (x d : ℤ) (before whole : List ℤ) → i < length v → x ≡ get_or v i d → before ++ negated (drop i v) ≡ whole → (before ++ neg_ℤ x ∷ []) ++ negated (drop (i + 1) v) ≡ whole
one_more_negated v i x d before whole h is so_far =
    append_assoc before (neg_ℤ x ∷ []) (negated (drop (i + 1) v))
    ∙ ap (λ u. before ++ u) (ap (λ y. neg_ℤ y ∷ negated (drop (i + 1) v)) is ∙ ap negated (sym (drop_more v i d h)))
    ∙ so_far

-- ---- the grid
each_appended : {X : Type 0} (P : X → Type 0) (xs ys : List X) → AllByRecursion P xs → AllByRecursion P ys → AllByRecursion P (xs ++ ys)
each_appended P [] ys h k = k
each_appended P (x ∷ xs) ys h k = (h.0, each_appended P xs ys h.1 k)

length-cells : (n : ℕ) (rows : List (List ℤ)) → AreRows n rows → length (flat_map (λ x. x) rows) ≡ length rows * n
length-cells n [] h = let e : 0 ≡ 0 * n = omega arith in e
length-cells n (row ∷ rows) h =
    length-append row (flat_map (λ x. x) rows) ∙ ap (λ k. k + length (flat_map (λ x. x) rows)) h.0.0 ∙ ap (λ k. n + k) (length-cells n rows h.1) ∙ (let e : n + length rows * n ≡ length (row ∷ rows) * n = omega arith in e)

cells_small : (n : ℕ) (rows : List (List ℤ)) → AreRows n rows → AllByRecursion InRange (flat_map (λ x. x) rows)
cells_small n [] h = tt
cells_small n (row ∷ rows) h = each_appended InRange row (flat_map (λ x. x) rows) h.0.1 (cells_small n rows h.1)

pub rows_matrix : (n : ℕ) (rows : List (List ℤ)) (count : ℕ) (cells : List ℤ) → 1 ≤ n → AreRows n rows → count ≡ length rows → cells ≡ flat_map (λ x. x) rows → IsMatrix count n cells
rows_matrix n rows count cells some shape counted laid =
    subst (λ k. IsMatrix k n cells) (sym counted)
    (subst (IsMatrix (length rows) n) (sym laid) (record { count = length-cells n rows shape; wide = some; small = cells_small n rows shape }))

pub all_laid : (refs : List (Bor (List ℤ))) (i : ℕ) (cells : List ℤ) → length refs ≤ i → cells ++ flat_map (λ x. x) (rows_behind (drop i refs)) ≡ flat_map (λ x. x) (rows_behind refs) → cells ≡ flat_map (λ x. x) (rows_behind refs)
all_laid refs i cells h so_far = sym (append-nil cells) ∙ ap (λ u. cells ++ flat_map (λ x. x) (rows_behind u)) (sym (drop_all i refs h)) ∙ so_far

pub each_at : {X : Type 0} (P : X → Type 0) (xs : List X) (i : ℕ) (d : X) → i < length xs → AllByRecursion P xs → P (get_or xs i d)
each_at P [] i d l h = absurd (omega arith)
each_at P (x ∷ xs) zero d l h = h.0
each_at P (x ∷ xs) (suc i) d l h = each_at P xs i d (omega arith) h.1
