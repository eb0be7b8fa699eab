-- How many norms a walk closes, and the rows that wait in its stages.
use Rattle.std.specs.Prelude.{ℕ, ◌+◌, ◌≤◌, List, ℤ, length}
use Rattle.lift_core.specs.Systems.{LinearSystem}
use Rattle.lift_core.specs.Ends.{Limits, End}
use Rattle.lift_core.specs.Walks.{WalkEnds, walk_norm_overflow, walk_pairs_spent, walk_rows_spent, walk_closing, walk_row_overflow, walk_next_stage, walk_finish, solutions_in}

-- the number of norms that the walk closes
abbrev pub closed_norms :
    (S : LinearSystem) (limits : Limits) {k d used : ℕ} {listed waiting : List (List ℤ)} {end : End}
    → WalkEnds S limits k d used listed waiting end
    → ℕ
closed_norms S limits (walk_norm_overflow next large) = 0
closed_norms S limits (walk_pairs_spent next small over) = 0
closed_norms S limits (walk_rows_spent grown next small fits g over) = 0
closed_norms S limits (walk_closing grown next small fits g room rest) =
    closed_norms S limits rest + 1
closed_norms S limits (walk_row_overflow none more found) = 0
closed_norms S limits (walk_next_stage none more found rest) = closed_norms S limits rest
closed_norms S limits (walk_finish none last) = 0

-- the number of rows that wait at the starts of the walk's later stages, in all
abbrev pub later_waiting :
    (S : LinearSystem) (limits : Limits) {k d used : ℕ} {listed waiting : List (List ℤ)} {end : End}
    → WalkEnds S limits k d used listed waiting end
    → ℕ
later_waiting S limits (walk_norm_overflow next large) = 0
later_waiting S limits (walk_pairs_spent next small over) = 0
later_waiting S limits (walk_rows_spent grown next small fits g over) = 0
later_waiting S limits (walk_closing grown next small fits g room rest) =
    later_waiting S limits rest
later_waiting S limits (walk_row_overflow none more found) = 0
later_waiting S limits {k} {d} {used} {listed} (walk_next_stage none more found rest) =
    length (solutions_in listed) + later_waiting S limits rest
later_waiting S limits (walk_finish none last) = 0

-- a walk closes at most as many norms as its limit of pairs and the rows that wait in its stages
abbrev pub NormsAreBounded : Type 0
NormsAreBounded =
    (S : LinearSystem) (limits : Limits)
    (k d used : ℕ)
    (listed waiting : List (List ℤ)) (end : End)
    (walk : WalkEnds S limits k d used listed waiting end)
    → closed_norms S limits walk ≤ limits.pairs + (length waiting + later_waiting S limits walk)
