-- The walk of the lists at a place has the end that is reached from it, and so has the walk from the start.
-- By recursion on the walk: at each step the lists in hand are those at the place, since the grown list and the rows
-- that still wait are those at the next
-- norm, and those that a finished stage hands on are those at norm 0 of the next stage.
use Rattle.std.proofs.Common.{◌≡◌, ℕ, zero, suc, ◌+◌, ◌≤◌, ◌<◌, List, [], length, refl, sym, subst, arith}
use Rattle.std.specs.Prelude.{map, ℤ}
use Rattle.lift_core.specs.Systems.{LinearSystem, row}
use Rattle.lift_core.specs.Stages.{extend, last, IsListed, IsWaiting, IsStageList, all_pairs, ArePairsBefore, AreUsed}
use Rattle.lift_core.specs.Ends.{End, RunEnds, from_stage_one, Limits, ListsAt, EndsIn, by_norm_overflow, by_pairs_spent, by_rows_spent, by_closing, by_row_overflow, by_next_stage, by_finish, IsSolutionList}
use Rattle.lift_core.specs.Walks.{WalkEnds, walk_norm_overflow, walk_pairs_spent, walk_rows_spent, walk_closing, walk_row_overflow, walk_next_stage, walk_finish, solutions_in, IsGrown, used_up_to}
use Rattle.lift_core.proofs.Growth.{complete}
use Rattle.lift_core.proofs.Places.{grown_listed, still_waits, used_next, all_used, solutions_are, nothing_listed, solutions_wait}
use Rattle.lift_core.proofs.Grown.{grown_exists}

-- ---- the pairs of the stages before the next stage
pub pairs_before_next : (S : LinearSystem) (k : ℕ) → 0 < k → (rows : List (List ℤ)) → IsStageList S k rows → (m n : ℕ) → ArePairsBefore S k m → n ≡ m + all_pairs rows → ArePairsBefore S (k + 1) n
pairs_before_next S zero h rows l m n b e = absurd (omega arith)
pairs_before_next S (suc j) h rows l m n b e = let f : suc j + 1 ≡ suc (suc j) = omega arith in subst (λ i. ArePairsBefore S i n) (sym f) (rows, m, l, b, e)

next_used : (S : LinearSystem) (k used : ℕ) → ArePairsBefore S (k + 1) used → AreUsed S (k + 1) 0 used
next_used S k used b = record { before = used; pairs_before = b; listed = []; is_listed = nothing_listed S (k + 1); sum = omega arith }

abbrev lists : (S : LinearSystem) (k d : ℕ) (listed waiting : List (List ℤ)) → IsListed S k d listed → IsWaiting S k d waiting → ListsAt S k d
lists S k d listed waiting l q = record { listed = listed; waiting = waiting; is_listed = l; is_waiting = q }

-- ---- the walk
pub walk_ends : (S : LinearSystem) (limits : Limits) {k d used : ℕ} {listed waiting : List (List ℤ)} {end : End} → WalkEnds S limits k d used listed waiting end
    → 0 < k → k ≤ length S.rows → IsListed S k d listed → IsWaiting S k d waiting → AreUsed S k d used → EndsIn S limits k d end
walk_ends S limits {k} {d} {used} {listed} {waiting} (walk_norm_overflow {e} next large) f m l q u = by_norm_overflow (lists S k d listed waiting l q) next large
walk_ends S limits {k} {d} {used} {listed} {waiting} (walk_pairs_spent {e} next small over) f m l q u =
    let g : (grown : List (List ℤ)) × IsGrown S listed waiting e grown = grown_exists S listed waiting e in
    let n : IsListed S k e g.0 = grown_listed S k d listed waiting l q e next g.0 g.1 in
    by_pairs_spent (lists S k d listed waiting l q) next small (used_next S k d listed waiting l q e next used u g.0 n) over
walk_ends S limits {k} {d} {used} {listed} {waiting} (walk_rows_spent {e} grown next small fits g over) f m l q u =
    let n : IsListed S k e grown = grown_listed S k d listed waiting l q e next grown g in
    by_rows_spent (lists S k d listed waiting l q) grown next small (used_next S k d listed waiting l q e next used u grown n) fits n over
walk_ends S limits {k} {d} {used} {listed} {waiting} (walk_closing {e} grown next small fits g room rest) f m l q u =
    let n : IsListed S k e grown = grown_listed S k d listed waiting l q e next grown g in
    let v : AreUsed S k e (used_up_to used listed d e) = used_next S k d listed waiting l q e next used u grown n in
    by_closing (lists S k d listed waiting l q) grown next small v fits n room
    (walk_ends S limits rest f m n (still_waits S k d listed waiting l q e next) v)
walk_ends S limits {k} {d} {used} {listed} {waiting} (walk_row_overflow none more found) f m l q u =
    by_row_overflow (lists S k d listed waiting l q) (solutions_in listed) none more (solutions_are S k f m listed (complete S k d listed waiting l q none)) found
walk_ends S limits {k} {d} {used} {listed} {waiting} (walk_next_stage none more found rest) f m l q u =
    let all : IsStageList S k listed = complete S k d listed waiting l q none in
    let rows : IsSolutionList S k (solutions_in listed) = solutions_are S k f m listed all in
    let p : (before : ℕ) × ArePairsBefore S k before × (used ≡ before + all_pairs listed) = all_used S k d listed waiting l q none used u in
    by_next_stage (lists S k d listed waiting l q) (solutions_in listed) none more rows found
    (walk_ends S limits rest (omega arith) (omega arith) (nothing_listed S (k + 1)) (solutions_wait S k (solutions_in listed) rows)
    (next_used S k used (pairs_before_next S k f listed all p.0 used p.1 p.2)))
walk_ends S limits {k} {d} {used} {listed} {waiting} (walk_finish none last) f m l q u =
    by_finish (lists S k d listed waiting l q) (solutions_in listed) none last (solutions_are S k f m listed (complete S k d listed waiting l q none)) u

-- nothing is used at the first place
pub first_used : (S : LinearSystem) → AreUsed S 1 0 0
first_used S = record { before = 0; pairs_before = refl; listed = []; is_listed = nothing_listed S 1; sum = omega arith }

-- from the start: nothing is listed or used, and the minimal solutions of no rows wait
pub run_walks : (S : LinearSystem) (limits : Limits) (rows : List (List ℤ)) (end : End) → 0 < length S.rows → IsSolutionList S 0 rows
    → WalkEnds S limits 1 0 0 [] (map (extend (row S 1)) rows) end → RunEnds S limits end
run_walks S limits rows end some list walk = from_stage_one some (walk_ends S limits walk (omega arith) (omega arith) (nothing_listed S 1) (solutions_wait S 0 rows list) (first_used S))
