-- The walk of given lists has at most one end.
-- As for the ends from a place: the next norm and the grown list are determined by the lists in hand, and so is the
-- rule that fits.
use Rattle.std.proofs.Common.{[], ◌≡◌, ℕ, ◌+◌, ◌≤◌, ◌<◌, List, length, refl, ap, subst, arith, Some, None}
use Rattle.std.specs.Prelude.{ℤ, map}
use Rattle.std.specs.List.{find}
use Rattle.lift_core.specs.Systems.{LinearSystem, row}
use Rattle.lift_core.specs.Stages.{IsNextNorm, HasNoNextNorm, extend}
use Rattle.lift_core.specs.Walks.{WalkEnds, walk_norm_overflow, walk_pairs_spent, walk_rows_spent, walk_closing, walk_row_overflow, walk_next_stage, walk_finish, IsGrown, used_up_to, still_waiting, solutions_in}
use Rattle.lift_core.specs.Ends.{End, norm_overflow, row_overflow, pairs_spent, rows_spent, finished, Limits, leaves_range}
use Rattle.int_vector.specs.Vectors.{largest}
use Rattle.lift_core.proofs.Unique.{next_same, one_grown, not_found, some_same}

module _ (S : LinearSystem) (limits : Limits) where
  -- what the walk does at the next norm e
  data WalkAtNext (k d used : ℕ) (listed waiting : List (List ℤ)) (e : ℕ) : End → Type 0 where
    step_norm : largest < e → WalkAtNext k d used listed waiting e (norm_overflow k e)
    step_pairs : e ≤ largest → limits.pairs < used_up_to used listed d e → WalkAtNext k d used listed waiting e (pairs_spent k e (used_up_to used listed d e))
    step_rows : (grown : List (List ℤ)) → e ≤ largest → used_up_to used listed d e ≤ limits.pairs → IsGrown S listed waiting e grown → limits.rows < length grown → WalkAtNext k d used listed waiting e (rows_spent k e (length grown))
    step_close : {end : End} (grown : List (List ℤ)) → e ≤ largest → used_up_to used listed d e ≤ limits.pairs → IsGrown S listed waiting e grown → length grown ≤ limits.rows → WalkEnds S limits k e (used_up_to used listed d e) grown (still_waiting e waiting) end → WalkAtNext k d used listed waiting e end

  -- what it does where there is no next norm
  data WalkAtNone (k used : ℕ) (listed : List (List ℤ)) : End → Type 0 where
    step_row : {h : List ℤ} → k < length S.rows → find (leaves_range (row S (k + 1))) (solutions_in listed) ≡ Some h → WalkAtNone k used listed (row_overflow (k + 1) h)
    step_stage : {end : End} → k < length S.rows → find (leaves_range (row S (k + 1))) (solutions_in listed) ≡ None → WalkEnds S limits (k + 1) 0 used [] (map (extend (row S (k + 1))) (solutions_in listed)) end → WalkAtNone k used listed end
    step_finish : length S.rows ≤ k → WalkAtNone k used listed (finished (solutions_in listed) used)

  walk_at_next : {k d used : ℕ} {listed waiting : List (List ℤ)} {end : End} → WalkEnds S limits k d used listed waiting end → (e : ℕ) → IsNextNorm listed waiting d e → WalkAtNext k d used listed waiting e end
  walk_at_next {k} {d} {used} {listed} {waiting} (walk_norm_overflow {e = f} next large) e p = subst (λ n. WalkAtNext k d used listed waiting n (norm_overflow k f)) (next_same listed waiting d f e next p) (step_norm large)
  walk_at_next {k} {d} {used} {listed} {waiting} (walk_pairs_spent {e = f} next small more) e p = subst (λ n. WalkAtNext k d used listed waiting n (pairs_spent k f (used_up_to used listed d f))) (next_same listed waiting d f e next p) (step_pairs small more)
  walk_at_next {k} {d} {used} {listed} {waiting} (walk_rows_spent {e = f} grown next small fits g more) e p = subst (λ n. WalkAtNext k d used listed waiting n (rows_spent k f (length grown))) (next_same listed waiting d f e next p) (step_rows grown small fits g more)
  walk_at_next {k} {d} {used} {listed} {waiting} {end} (walk_closing {e = f} grown next small fits g room rest) e p = subst (λ n. WalkAtNext k d used listed waiting n end) (next_same listed waiting d f e next p) (step_close grown small fits g room rest)
  walk_at_next (walk_row_overflow none more found) e p = absurd (none e p.above p.occurs)
  walk_at_next (walk_next_stage none more found rest) e p = absurd (none e p.above p.occurs)
  walk_at_next (walk_finish none last) e p = absurd (none e p.above p.occurs)

  walk_at_none : {k d used : ℕ} {listed waiting : List (List ℤ)} {end : End} → WalkEnds S limits k d used listed waiting end → HasNoNextNorm listed waiting d → WalkAtNone k used listed end
  walk_at_none (walk_norm_overflow {e = f} next large) p = absurd (p f next.above next.occurs)
  walk_at_none (walk_pairs_spent {e = f} next small more) p = absurd (p f next.above next.occurs)
  walk_at_none (walk_rows_spent {e = f} grown next small fits g more) p = absurd (p f next.above next.occurs)
  walk_at_none (walk_closing {e = f} grown next small fits g room rest) p = absurd (p f next.above next.occurs)
  walk_at_none (walk_row_overflow none more found) p = step_row more found
  walk_at_none (walk_next_stage none more found rest) p = step_stage more found rest
  walk_at_none (walk_finish none last) p = step_finish last

  walk_same_norm_overflow : {k d used : ℕ} {listed waiting : List (List ℤ)} {e : ℕ} {end : End} → WalkAtNext k d used listed waiting e end → largest < e → norm_overflow k e ≡ end
  walk_same_norm_overflow (step_norm l) h = refl
  walk_same_norm_overflow (step_pairs small more) h = absurd (omega arith)
  walk_same_norm_overflow (step_rows grown small fits g more) h = absurd (omega arith)
  walk_same_norm_overflow (step_close grown small fits g room rest) h = absurd (omega arith)

  walk_same_pairs_spent : {k d used : ℕ} {listed waiting : List (List ℤ)} {e : ℕ} {end : End} → WalkAtNext k d used listed waiting e end → e ≤ largest → limits.pairs < used_up_to used listed d e → pairs_spent k e (used_up_to used listed d e) ≡ end
  walk_same_pairs_spent (step_norm l) s h = absurd (omega arith)
  walk_same_pairs_spent (step_pairs small more) s h = refl
  walk_same_pairs_spent (step_rows grown small fits g more) s h = absurd (omega arith)
  walk_same_pairs_spent (step_close grown small fits g room rest) s h = absurd (omega arith)

  walk_same_rows_spent : {k d used : ℕ} {listed waiting : List (List ℤ)} {e : ℕ} {end : End} → WalkAtNext k d used listed waiting e end → (list : List (List ℤ)) → e ≤ largest → used_up_to used listed d e ≤ limits.pairs → IsGrown S listed waiting e list → limits.rows < length list → rows_spent k e (length list) ≡ end
  walk_same_rows_spent (step_norm l) list s h g' m = absurd (omega arith)
  walk_same_rows_spent (step_pairs small more) list s h g' m = absurd (omega arith)
  walk_same_rows_spent {k} {d} {used} {listed} {waiting} {e} (step_rows grown small fits g more) list s h g' m = ap (λ a. rows_spent k e (length a)) (one_grown S listed waiting e list grown g' g)
  walk_same_rows_spent {k} {d} {used} {listed} {waiting} {e} (step_close grown small fits g room rest) list s h g' m = absurd (omega (arith, ap length (one_grown S listed waiting e list grown g' g)))

  walk_rest_of_closing : {k d used : ℕ} {listed waiting : List (List ℤ)} {e : ℕ} {end : End} → WalkAtNext k d used listed waiting e end → (list : List (List ℤ)) → e ≤ largest → used_up_to used listed d e ≤ limits.pairs → IsGrown S listed waiting e list → length list ≤ limits.rows → WalkEnds S limits k e (used_up_to used listed d e) list (still_waiting e waiting) end
  walk_rest_of_closing (step_norm l) list s h g' m = absurd (omega arith)
  walk_rest_of_closing (step_pairs small more) list s h g' m = absurd (omega arith)
  walk_rest_of_closing {k} {d} {used} {listed} {waiting} {e} (step_rows grown small fits g more) list s h g' m = absurd (omega (arith, ap length (one_grown S listed waiting e list grown g' g)))
  walk_rest_of_closing {k} {d} {used} {listed} {waiting} {e} {end} (step_close grown small fits g room rest) list s h g' m = subst (λ l. WalkEnds S limits k e (used_up_to used listed d e) l (still_waiting e waiting) end) (one_grown S listed waiting e grown list g g') rest

  walk_same_row_overflow : {k used : ℕ} {listed : List (List ℤ)} {end : End} → WalkAtNone k used listed end → (g : List ℤ) → k < length S.rows → find (leaves_range (row S (k + 1))) (solutions_in listed) ≡ Some g → row_overflow (k + 1) g ≡ end
  walk_same_row_overflow {k} {used} {listed} (step_row {h} more found) g m f = ap (row_overflow (k + 1)) (some_same (find (leaves_range (row S (k + 1))) (solutions_in listed)) g h f found)
  walk_same_row_overflow {k} {used} {listed} (step_stage more found rest) g m f = absurd (not_found (find (leaves_range (row S (k + 1))) (solutions_in listed)) g f found)
  walk_same_row_overflow (step_finish last) g m f = absurd (omega arith)

  walk_rest_of_next_stage : {k used : ℕ} {listed : List (List ℤ)} {end : End} → WalkAtNone k used listed end → k < length S.rows → find (leaves_range (row S (k + 1))) (solutions_in listed) ≡ None → WalkEnds S limits (k + 1) 0 used [] (map (extend (row S (k + 1))) (solutions_in listed)) end
  walk_rest_of_next_stage {k} {used} {listed} (step_row {h} more found) m f = absurd (not_found (find (leaves_range (row S (k + 1))) (solutions_in listed)) h found f)
  walk_rest_of_next_stage (step_stage more found rest) m f = rest
  walk_rest_of_next_stage (step_finish last) m f = absurd (omega arith)

  walk_same_finish : {k used : ℕ} {listed : List (List ℤ)} {end : End} → WalkAtNone k used listed end → length S.rows ≤ k → finished (solutions_in listed) used ≡ end
  walk_same_finish (step_row more found) m = absurd (omega arith)
  walk_same_finish (step_stage more found rest) m = absurd (omega arith)
  walk_same_finish (step_finish last) m = refl

  pub one_walk : {k d used : ℕ} {listed waiting : List (List ℤ)} {first second : End} → WalkEnds S limits k d used listed waiting first → WalkEnds S limits k d used listed waiting second → first ≡ second
  one_walk (walk_norm_overflow {e = e} next large) w = walk_same_norm_overflow (walk_at_next w e next) large
  one_walk (walk_pairs_spent {e = e} next small more) w = walk_same_pairs_spent (walk_at_next w e next) small more
  one_walk (walk_rows_spent {e = e} grown next small fits g more) w = walk_same_rows_spent (walk_at_next w e next) grown small fits g more
  one_walk (walk_closing {e = e} grown next small fits g room rest) w = one_walk rest (walk_rest_of_closing (walk_at_next w e next) grown small fits g room)
  one_walk (walk_row_overflow {h = h} none more found) w = walk_same_row_overflow (walk_at_none w none) h more found
  one_walk (walk_next_stage none more found rest) w = one_walk rest (walk_rest_of_next_stage (walk_at_none w none) more found)
  one_walk (walk_finish none last) w = walk_same_finish (walk_at_none w none) last
