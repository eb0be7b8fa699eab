-- The walk of given lists, norm by norm and stage by stage. Of the lists of a place it has the end of that place.
use Rattle.std.specs.Prelude.{◌≡◌, ℕ, ◌+◌, ◌-◌, ◌≤◌, ◌<◌, ◌⊎◌, ◌==◌, List, [], ℤ, pos, length, map, not, Some, None}
use Rattle.std.specs.List.{Contains, filter, find}
use Rattle.std.specs.Ordering.{int_eq}
use Rattle.int_vector.specs.Vectors.{largest}
use Rattle.lift_core.specs.Lists.{IsListOf}
use Rattle.lift_core.specs.Systems.{LinearSystem, row}
use Rattle.lift_core.specs.Stages.{extend, front, last, stage_norm, norm_cmp, IsNextNorm, HasNoNextNorm, IsWaitingAt, pairs_within}
use Rattle.lift_core.specs.Ends.{Limits, End, norm_overflow, row_overflow, pairs_spent, rows_spent, finished, leaves_range}
use Rattle.lift_core.specs.PairSums.{IsNewSum}

-- the rows with last entry 0, without it
abbrev pub solutions_in : List (List ℤ) → List (List ℤ)
solutions_in rows = map front (filter (λ z. int_eq (last z) (pos 0)) rows)

-- the rows that wait after norm e is closed
abbrev pub still_waiting : ℕ → List (List ℤ) → List (List ℤ)
still_waiting e waiting = filter (λ z. not (stage_norm z == e)) waiting

-- the listed rows with the waiting ones of norm e and the irreducible sums of the pairs of norm e
abbrev pub IsGrown : LinearSystem → List (List ℤ) → List (List ℤ) → ℕ → List (List ℤ) → Type 0
IsGrown S listed waiting e grown =
    IsListOf norm_cmp
    (λ z. Contains listed z ⊎ (IsWaitingAt waiting e z ⊎ IsNewSum S listed e z)) grown

-- the pairs used up to norm e, from those used up to d
abbrev pub used_up_to : ℕ → List (List ℤ) → ℕ → ℕ → ℕ
used_up_to used listed d e = used + pairs_within listed e - pairs_within listed d

-- the end that is reached from the lists, the norm d and the used pairs of stage k
pub data WalkEnds (S : LinearSystem) (limits : Limits)
    : (k d used : ℕ) → List (List ℤ) → List (List ℤ) → End → Type 0 where
  walk_norm_overflow : {k d used e : ℕ} {listed waiting : List (List ℤ)}
      → IsNextNorm listed waiting d e
      → largest < e
      → WalkEnds S limits k d used listed waiting (norm_overflow k e)
  walk_pairs_spent : {k d used e : ℕ} {listed waiting : List (List ℤ)}
      → IsNextNorm listed waiting d e
      → e ≤ largest
      → limits.pairs < used_up_to used listed d e
      → WalkEnds S limits k d used listed waiting (pairs_spent k e (used_up_to used listed d e))
  walk_rows_spent : {k d used e : ℕ} {listed waiting : List (List ℤ)} (grown : List (List ℤ))
      → IsNextNorm listed waiting d e
      → e ≤ largest
      → used_up_to used listed d e ≤ limits.pairs
      → IsGrown S listed waiting e grown
      → limits.rows < length grown
      → WalkEnds S limits k d used listed waiting (rows_spent k e (length grown))
  walk_closing : {k d used e : ℕ} {listed waiting : List (List ℤ)} {end : End}
      (grown : List (List ℤ))
      → IsNextNorm listed waiting d e
      → e ≤ largest
      → used_up_to used listed d e ≤ limits.pairs
      → IsGrown S listed waiting e grown
      → length grown ≤ limits.rows
      → WalkEnds S limits k e (used_up_to used listed d e) grown (still_waiting e waiting) end
      → WalkEnds S limits k d used listed waiting end
  walk_row_overflow : {k d used : ℕ} {listed waiting : List (List ℤ)} {h : List ℤ}
      → HasNoNextNorm listed waiting d
      → k < length S.rows
      → find (leaves_range (row S (k + 1))) (solutions_in listed) ≡ Some h
      → WalkEnds S limits k d used listed waiting (row_overflow (k + 1) h)
  walk_next_stage : {k d used : ℕ} {listed waiting : List (List ℤ)} {end : End}
      → HasNoNextNorm listed waiting d
      → k < length S.rows
      → find (leaves_range (row S (k + 1))) (solutions_in listed) ≡ None
      → WalkEnds S limits (k + 1) 0 used [] (map (extend (row S (k + 1))) (solutions_in listed)) end
      → WalkEnds S limits k d used listed waiting end
  walk_finish : {k d used : ℕ} {listed waiting : List (List ℤ)}
      → HasNoNextNorm listed waiting d
      → length S.rows ≤ k
      → WalkEnds S limits k d used listed waiting (finished (solutions_in listed) used)
