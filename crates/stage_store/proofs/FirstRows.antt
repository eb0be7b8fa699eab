-- The rows that a stage begins with, one by one: the solutions of a finished stage, and solutions with their products.
use Rattle.std.proofs.Common.{◌≡◌, ℕ, ◌+◌, ◌^◌, ◌≤◌, ◌<◌, List, [], ◌∷◌, ◌++◌, length, get_or, take, drop, refl, ap, ap₂, sym, ◌∙◌, subst, arith, inl, inr, Bool, true, false, cond}
use Rattle.std.specs.Prelude.{ℤ, pos, map, Some, None, nat_abs}
use Rattle.std.specs.List.{Contains, AllByRecursion, filter, find}
use Rattle.std.specs.List.Sorted.{IsStrictlySortedBy}
use Rattle.std.specs.Ordering.{int_eq}
use Rattle.std.proofs.lemmas.Bool.{cases_Bool, lt-ltb, le-ltb}
use Rattle.std.proofs.lemmas.Bool.Decides.{Decides-int_eq}
use Rattle.std.proofs.lemmas.List.{take_more, take_all, drop_more, map_more, length-map, map-append, take-append-drop}
use Rattle.std.proofs.lemmas.List.Elements.{filter-append}
use Rattle.std.proofs.lemmas.List.Kept.{IsStrictlySortedBy-filter}
use Rattle.int_vector.specs.Vectors.{norm, dot, largest}
use Rattle.lift_core.specs.Systems.{row, Solves}
use Rattle.lift_core.specs.Stages.{extend, front, last, norm_cmp, IsStageVector}
use Rattle.lift_core.specs.Ends.{solution_cmp, leaves_range}
use Rattle.lift_core.specs.Walks.{solutions_in}
use Rattle.lift_core.proofs.Lists.{each_from_contained, each_contained}
use Rattle.lift_core.proofs.Stages.{front-take, last-push}
use Rattle.lift_core.proofs.Growth.{stage_front}
use Rattle.lift_core.proofs.Places.{fronts_before}
use Rattle.lift_core.proofs.Orders.{from_filter, from_map, map_ascending}
use Rattle.lift_core.proofs.Composition.{solves_next}
use Rattle.stage_store.specs.Stage.{StageValue, IsStage, IsStageRow}

abbrev zero_last : List ℤ → Bool
zero_last z = int_eq (last z) (pos 0)

solutions_push : (rows : List (List ℤ)) (z : List ℤ) → solutions_in (rows ++ (z ∷ [])) ≡ solutions_in rows ++ solutions_in (z ∷ [])
solutions_push rows z = ap (map front) (filter-append zero_last rows (z ∷ [])) ∙ map-append front (filter zero_last rows) (filter zero_last (z ∷ []))

module _ (rows kept : List (List ℤ)) (z : List ℤ) (i w : ℕ) (l : i < length rows) (is : z ≡ get_or rows i []) (n : length z ≡ w + 1) (so_far : kept ≡ solutions_in (take i rows)) where
  more_is : solutions_in (take (i + 1) rows) ≡ kept ++ solutions_in (z ∷ [])
  more_is = ap solutions_in (take_more rows i [] l) ∙ solutions_push (take i rows) (get_or rows i []) ∙ ap₂ (λ (k : List (List ℤ)) (y : List ℤ). k ++ solutions_in (y ∷ [])) (sym so_far) (sym is)

  pub kept_more : (new : List (List ℤ)) → zero_last z ≡ true → new ≡ kept ++ (take w z ∷ []) → new ≡ solutions_in (take (i + 1) rows)
  kept_more new e pushed =
      pushed ∙ ap (λ (v : List ℤ). kept ++ (v ∷ [])) (sym (front-take z w n)) ∙ sym (more_is ∙ ap (λ b. kept ++ map front (cond b (z ∷ []) [])) e)

  pub kept_less : zero_last z ≡ false → kept ≡ solutions_in (take (i + 1) rows)
  kept_less d = sym (more_is ∙ ap (λ b. kept ++ map front (cond b (z ∷ []) [])) d ∙ append_nothing kept)
    where
      append_nothing : (xs : List (List ℤ)) → xs ++ [] ≡ xs
      append_nothing [] = refl
      append_nothing (x ∷ xs) = ap (λ l. x ∷ l) (append_nothing xs)

pub kept_all : (rows kept : List (List ℤ)) (i : ℕ) → length rows ≤ i → kept ≡ solutions_in (take i rows) → kept ≡ solutions_in rows
kept_all rows kept i l e = e ∙ ap solutions_in (take_all i rows l)

-- ---- products with a row
find_none : (p : List ℤ → Bool) (xs : List (List ℤ)) (y : List ℤ) → find p xs ≡ None → p y ≡ false → find p (xs ++ (y ∷ [])) ≡ None
find_none p [] y e f = rw f refl
find_none p (x ∷ xs) y e f = elim (cases_Bool (p x)) [
  | inl t ↦ let g : Some x ≡ None = ap (λ b. cond b (Some x) (find p xs)) (sym t) ∙ e in absurd (cc)
  | inr t ↦ rw t (find_none p xs y (ap (λ b. cond b (Some x) (find p xs)) (sym t) ∙ e) f)
]

find_first : (p : List ℤ → Bool) (xs ys : List (List ℤ)) (y : List ℤ) → find p xs ≡ None → p y ≡ true → find p (xs ++ (y ∷ ys)) ≡ Some y
find_first p [] ys y e f = rw f refl
find_first p (x ∷ xs) ys y e f = elim (cases_Bool (p x)) [
  | inl t ↦ let g : Some x ≡ None = ap (λ b. cond b (Some x) (find p xs)) (sym t) ∙ e in absurd (cc)
  | inr t ↦ rw t (find_first p xs ys y (ap (λ b. cond b (Some x) (find p xs)) (sym t) ∙ e) f)
]

pub fit_more : (r : List ℤ) (rows : List (List ℤ)) (v : List ℤ) (i : ℕ) → i < length rows → v ≡ get_or rows i [] → find (leaves_range r) (take i rows) ≡ None → nat_abs (dot r v) ≤ largest → find (leaves_range r) (take (i + 1) rows) ≡ None
fit_more r rows v i l is e small =
    ap (find (leaves_range r)) (take_more rows i [] l) ∙ find_none (leaves_range r) (take i rows) (get_or rows i []) e (subst (λ (w : List ℤ). leaves_range r w ≡ false) is (le-ltb largest (nat_abs (dot r v)) small))

pub fit_not : (r : List ℤ) (rows : List (List ℤ)) (v : List ℤ) (i : ℕ) → i < length rows → v ≡ get_or rows i [] → find (leaves_range r) (take i rows) ≡ None → largest < nat_abs (dot r v) → find (leaves_range r) rows ≡ Some v
fit_not r rows v i l is e large =
    let split : rows ≡ take i rows ++ (v ∷ drop (i + 1) rows) = sym (take-append-drop i rows) ∙ ap (λ (d : List (List ℤ)). take i rows ++ d) (drop_more rows i [] l ∙ ap (λ (x : List ℤ). x ∷ drop (i + 1) rows) (sym is)) in
    ap (find (leaves_range r)) split ∙ find_first (leaves_range r) (take i rows) (drop (i + 1) rows) v e (lt-ltb largest (nat_abs (dot r v)) large)

pub extended_more : (r : List ℤ) (rows waiting new : List (List ℤ)) (v cells : List ℤ) (t : ℤ) (i : ℕ) → i < length rows → v ≡ get_or rows i [] → waiting ≡ map (extend r) (take i rows) → t ≡ dot r v → cells ≡ v ++ (t ∷ []) → new ≡ waiting ++ (cells ∷ []) → new ≡ map (extend r) (take (i + 1) rows)
extended_more r rows waiting new v cells t i l is so_far t_is c_is pushed =
    pushed ∙ ap₂ (λ (w : List (List ℤ)) (z : List ℤ). w ++ (z ∷ [])) so_far (c_is ∙ ap (λ (x : ℤ). v ++ (x ∷ [])) t_is ∙ ap (extend r) is) ∙ sym (map_more (extend r) rows i [] l)

-- ---- the solutions of a finished stage
module _ (s : StageValue) (h : IsStage s) where
  kept_from : (v : List ℤ) → Contains (solutions_in s.listed) v → (z : List ℤ) × IsStageRow s.system.equations s.number z × (last z ≡ pos 0) × (v ≡ front z)
  kept_from v c =
      let m : (z : List ℤ) × Contains (filter zero_last s.listed) z × (v ≡ front z) = from_map front (filter zero_last s.listed) v c in
      let f : Contains s.listed m.0 × (zero_last m.0 ≡ true) = from_filter zero_last s.listed m.0 m.1 in
      (m.0, each_contained (IsStageRow s.system.equations s.number) s.listed m.0 h.listed_rows f.0, (Decides-int_eq (last m.0) (pos 0)).0 f.1, m.2)

  pub kept_solve : AllByRecursion (Solves s.system.equations s.number) (solutions_in s.listed)
  kept_solve = each_from_contained (Solves s.system.equations s.number) (solutions_in s.listed) (λ v c.
      let k : (z : List ℤ) × IsStageRow s.system.equations s.number z × (last z ≡ pos 0) × (v ≡ front z) = kept_from v c in
      let p = k.1.vector in
      let part : v ≡ k.1.vector.part = k.3 ∙ stage_front s.system.equations s.number k.0 k.1.vector in
      let t : dot (row s.system.equations s.number) k.1.vector.part ≡ pos 0 = sym (last-push k.1.vector.part (dot (row s.system.equations s.number) k.1.vector.part)) ∙ ap last (sym k.1.vector.is) ∙ k.2 in
      subst (λ (w : List ℤ). Solves s.system.equations s.number w) (sym part) (solves_next s.system.equations s.number h.number_from h.number_to k.1.vector.part k.1.vector.member t))

  pub kept_positive : AllByRecursion (λ v. 0 < norm v) (solutions_in s.listed)
  kept_positive = each_from_contained (λ v. 0 < norm v) (solutions_in s.listed) (λ v c.
      let k : (z : List ℤ) × IsStageRow s.system.equations s.number z × (last z ≡ pos 0) × (v ≡ front z) = kept_from v c in
      omega (arith, ap norm k.3, k.1.positive))

  pub kept_small : AllByRecursion (λ v. norm v ≤ largest) (solutions_in s.listed)
  kept_small = each_from_contained (λ v. norm v ≤ largest) (solutions_in s.listed) (λ v c.
      let k : (z : List ℤ) × IsStageRow s.system.equations s.number z × (last z ≡ pos 0) × (v ≡ front z) = kept_from v c in
      omega (arith, ap norm k.3, k.1.small))

  pub kept_ascend : IsStrictlySortedBy solution_cmp (solutions_in s.listed)
  kept_ascend = map_ascending front norm_cmp solution_cmp (IsStageVector s.system.equations s.number) (fronts_before s.system.equations s.number) (filter zero_last s.listed)
      (each_from_contained (IsStageVector s.system.equations s.number) (filter zero_last s.listed) (λ z c. (each_contained (IsStageRow s.system.equations s.number) s.listed z h.listed_rows (from_filter zero_last s.listed z c).0).vector))
      (IsStrictlySortedBy-filter norm_cmp zero_last s.listed h.listed_ascending)

  pub kept_count : length (solutions_in s.listed) ≤ 2 ^ 21
  kept_count = omega (arith, length-map (filter zero_last s.listed) front, filter_short zero_last s.listed, h.listed_length)
    where
      filter_short : (test : List ℤ → Bool) (xs : List (List ℤ)) → length (filter test xs) ≤ length xs
      filter_short test [] = omega arith
      filter_short test (x ∷ xs) = elim (cases_Bool (test x)) [
        | inl t ↦ rw t (omega (arith, filter_short test xs))
        | inr t ↦ rw t (omega (arith, filter_short test xs))
      ]
