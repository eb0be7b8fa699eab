-- The laws of the lifting, over the definitions alone. Each is the contract of a function that does nothing.
use Rattle.std.specs.Prelude.{◌<ℤ◌, ◌≡◌, ℕ, ◌+◌, ◌≤◌, ◌<◌, ◌⊎◌, ◌↔◌, max, List, [], ℤ, pos, ◌+ℤ◌, nat_abs, length, map, slice_index_or, not}
use Rattle.std.specs.List.{count_by, Contains}
use Rattle.std.specs.Ordering.{int_eq}
use Rattle.int_vector.specs.Vectors.{◌⊑◌, IsZero, negated, leads_negative}
use Rattle.lift_core.specs.Systems.{LinearSystem, row, Solves, IsMinimalSolution}
use Rattle.lift_core.specs.Stages.{extend, last, stage_norm, IsStageVector, IsStageMinimal, IsListed, IsWaiting, IsStageList, IsPair, IsWaitingAt, IsNextNorm, HasNoNextNorm, AreUsed}
use Rattle.lift_core.specs.PairSums.{IsNewSum}
use Rattle.lift_core.specs.Inside.Decompositions.{IsDecomposition, IsConformalSum, last_total}
use Rattle.lift_core.specs.Inside.Units.{IsSignedUnit}
use Rattle.lift_core.specs.Columns.{SolutionKind}
use Rattle.lift_core.specs.Inside.Written.{IsWanted, IsWantedGraver}
use Rattle.lift_core.specs.Ends.{Limits, End, finished, EndsIn, RunEnds, IsSolutionList}
use Rattle.lift_core.specs.Walks.{WalkEnds, solutions_in, still_waiting, IsGrown, used_up_to}

-- ---- single vectors and sums
-- the minimal solutions of no rows are the signed unit vectors that the signs and caps allow
abbrev pub UnitsAreMinimal : Type 0
UnitsAreMinimal =
    (S : LinearSystem) → length S.caps ≡ length S.signs → (v : List ℤ) → IsMinimalSolution S 0 v
    ↔ IsSignedUnit S v

-- two stage vectors of one norm are not below each other, unless they are the same
abbrev pub OneNorm : Type 0
OneNorm =
    (S : LinearSystem) (k : ℕ) (u v : List ℤ) → IsStageVector S k u → IsStageVector S k v
    → stage_norm u ≡ stage_norm v → u ⊑ v → u ≡ v

-- of a pair, the sum of the last entries is smaller than the greater of both
abbrev pub SmallerLast : Type 0
SmallerLast =
    (listed : List (List ℤ)) (f g : List ℤ) → IsPair listed f g
    → nat_abs (last f +ℤ last g) < max (nat_abs (last f)) (nat_abs (last g))

-- each solution is a sum of minimal solutions below it, and each stage vector of minimal stage vectors
abbrev pub Decomposes : Type 0
Decomposes =
    (S : LinearSystem) (k : ℕ) (v : List ℤ) → Solves S k v → (terms : List (List ℤ))
    × IsDecomposition (Solves S k) v terms

abbrev pub StageDecomposes : Type 0
StageDecomposes =
    (S : LinearSystem) (k : ℕ) (z : List ℤ) → IsStageVector S k z → (terms : List (List ℤ))
    × IsDecomposition (IsStageVector S k) z terms

-- where an entry of the solution is 1, exactly one term has a 1 there
abbrev pub OneTerm : Type 0
OneTerm =
    (S : LinearSystem) (k : ℕ) (v : List ℤ) (terms : List (List ℤ)) (j : ℕ)
    → IsDecomposition (Solves S k) v terms → slice_index_or v j (pos 0) ≡ pos 1
    → count_by (λ u. int_eq (slice_index_or u j (pos 0)) (pos 1)) terms ≡ 1

-- a stage vector that is the sum of three or more minimal ones with conformal fronts, two of them with opposite last
-- entries, is such a sum of two or more with a smaller total of last entries
abbrev pub SumsDescend : Type 0
SumsDescend =
    (S : LinearSystem) (k : ℕ) (z : List ℤ) (terms : List (List ℤ)) → IsStageVector S k z
    → IsConformalSum S k z terms → 3 ≤ length terms
    → (f g : List ℤ) → Contains terms f → Contains terms g → pos 0 <ℤ last f → last g <ℤ pos 0
    → (new : List (List ℤ)) × IsConformalSum S k z new × (2 ≤ length new)
    × (last_total new < last_total terms)

-- ---- from norm to norm, and from stage to stage
-- no minimal stage vector has a norm between d and the next norm
abbrev pub NoneBetween : Type 0
NoneBetween =
    (S : LinearSystem) (k d e : ℕ) (listed waiting : List (List ℤ)) → IsListed S k d listed
    → IsWaiting S k d waiting → IsNextNorm listed waiting d e
    → (z : List ℤ) → IsStageMinimal S k z → d < stage_norm z → e ≤ stage_norm z

-- those of the next norm are the waiting rows of that norm and the irreducible sums of the pairs of that norm
abbrev pub NextRows : Type 0
NextRows =
    (S : LinearSystem) (k d e : ℕ) (listed waiting : List (List ℤ)) → IsListed S k d listed
    → IsWaiting S k d waiting → IsNextNorm listed waiting d e
    → (z : List ℤ) → (IsStageMinimal S k z × (stage_norm z ≡ e))
    ↔ (IsWaitingAt waiting e z ⊎ IsNewSum S listed e z)

-- where there is no next norm, all minimal stage vectors are listed
abbrev pub Completeness : Type 0
Completeness =
    (S : LinearSystem) (k d : ℕ) (listed waiting : List (List ℤ)) → IsListed S k d listed
    → IsWaiting S k d waiting → HasNoNextNorm listed waiting d
    → IsStageList S k listed

-- the grown list and the rows that still wait are the lists at the next norm, with its used pairs
abbrev pub ListsGrow : Type 0
ListsGrow =
    (S : LinearSystem) (k d e used : ℕ) (listed waiting grown : List (List ℤ))
    → IsListed S k d listed → IsWaiting S k d waiting → AreUsed S k d used
    → IsNextNorm listed waiting d e → IsGrown S listed waiting e grown
    → IsListed S k e grown × IsWaiting S k e (still_waiting e waiting)
    × AreUsed S k e (used_up_to used listed d e)

-- a grown list is there
abbrev pub Grows : Type 0
Grows =
    (S : LinearSystem) (listed waiting : List (List ℤ)) (e : ℕ) → (grown : List (List ℤ))
    × IsGrown S listed waiting e grown

-- the rows of a finished stage with last entry 0, without it, are the minimal solutions
abbrev pub SolutionsAreMinimal : Type 0
SolutionsAreMinimal =
    (S : LinearSystem) (k : ℕ) (rows : List (List ℤ)) → 0 < k → k ≤ length S.rows
    → IsStageList S k rows → IsSolutionList S k (solutions_in rows)

-- at the start of a stage nothing is listed, and the minimal solutions wait
abbrev pub StageStarts : Type 0
StageStarts =
    (S : LinearSystem) (k : ℕ) (rows : List (List ℤ)) → IsSolutionList S k rows
    → IsListed S (k + 1) 0 [] × IsWaiting S (k + 1) 0 (map (extend (row S (k + 1))) rows)

-- the first place
abbrev pub FirstPlace : Type 0
FirstPlace = (S : LinearSystem) → AreUsed S 1 0 0

-- ---- each list is unique, and so is each number
-- at most one list is that of a place
abbrev pub OneListed : Type 0
OneListed =
    (S : LinearSystem) (k d : ℕ) (first second : List (List ℤ)) → IsListed S k d first
    → IsListed S k d second → first ≡ second

abbrev pub OneWaiting : Type 0
OneWaiting =
    (S : LinearSystem) (k d : ℕ) (first second : List (List ℤ)) → IsWaiting S k d first
    → IsWaiting S k d second → first ≡ second

-- at most one has all minimal stage vectors, and at most one all minimal solutions
abbrev pub OneStageList : Type 0
OneStageList =
    (S : LinearSystem) (k : ℕ) (first second : List (List ℤ)) → IsStageList S k first
    → IsStageList S k second → first ≡ second

abbrev pub OneSolutionList : Type 0
OneSolutionList =
    (S : LinearSystem) (k : ℕ) (first second : List (List ℤ)) → IsSolutionList S k first
    → IsSolutionList S k second → first ≡ second

-- at most one is grown from the lists in hand
abbrev pub OneGrown : Type 0
OneGrown =
    (S : LinearSystem) (listed waiting : List (List ℤ)) (e : ℕ) (first second : List (List ℤ))
    → IsGrown S listed waiting e first → IsGrown S listed waiting e second → first ≡ second

-- at most one number is that of the used pairs, and at most one norm is next
abbrev pub OneUsed : Type 0
OneUsed =
    (S : LinearSystem) (k e first second : ℕ) → AreUsed S k e first → AreUsed S k e second
    → first ≡ second

abbrev pub OneNextNorm : Type 0
OneNextNorm =
    (listed waiting : List (List ℤ)) (d first second : ℕ) → IsNextNorm listed waiting d first
    → IsNextNorm listed waiting d second → first ≡ second

-- ---- the end
-- the walk of the lists at a place has the end that is reached from it
abbrev pub WalkHasTheEnd : Type 0
WalkHasTheEnd =
    (S : LinearSystem) (limits : Limits) (k d used : ℕ) (listed waiting : List (List ℤ))
    (end : End) → 0 < k → k ≤ length S.rows
    → IsListed S k d listed → IsWaiting S k d waiting → AreUsed S k d used
    → WalkEnds S limits k d used listed waiting end → EndsIn S limits k d end

-- at most one end is reached
abbrev pub OneEnd : Type 0
OneEnd =
    (S : LinearSystem) (limits : Limits) (k d : ℕ) (first second : End) → EndsIn S limits k d first
    → EndsIn S limits k d second → first ≡ second

-- a finished run has the minimal solutions of all rows, from whichever place it began
abbrev pub FinishedRows : Type 0
FinishedRows =
    (S : LinearSystem) (limits : Limits) (k d used : ℕ) (rows : List (List ℤ)) → k ≤ length S.rows
    → EndsIn S limits k d (finished rows used) → IsSolutionList S (length S.rows) rows

-- the walk of given lists has at most one end
abbrev pub OneWalk : Type 0
OneWalk =
    (S : LinearSystem) (limits : Limits) (k d used : ℕ) (listed waiting : List (List ℤ))
    (first second : End) → WalkEnds S limits k d used listed waiting first
    → WalkEnds S limits k d used listed waiting second → first ≡ second

-- from the start, the walk of the empty list and of the waiting minimal solutions of no rows has the end of the run
abbrev pub RunWalks : Type 0
RunWalks =
    (S : LinearSystem) (limits : Limits) (rows : List (List ℤ)) (end : End) → 0 < length S.rows
    → IsSolutionList S 0 rows
    → WalkEnds S limits 1 0 0 [] (map (extend (row S 1)) rows) end → RunEnds S limits end

-- a run has at most one end
abbrev pub OneRun : Type 0
OneRun =
    (S : LinearSystem) (limits : Limits) (first second : End) → RunEnds S limits first
    → RunEnds S limits second → first ≡ second

-- a finished run has the minimal solutions of all rows
abbrev pub FinishedRun : Type 0
FinishedRun =
    (S : LinearSystem) (limits : Limits) (used : ℕ) (rows : List (List ℤ))
    → RunEnds S limits (finished rows used) → IsSolutionList S (length S.rows) rows

-- ---- what is written
-- at most one list is written
abbrev pub OneWanted : Type 0
OneWanted =
    (S : LinearSystem) (n : ℕ) (kind : SolutionKind) (first second : List (List ℤ))
    → IsWanted S n kind first → IsWanted S n kind second → first ≡ second

-- for Graver sets too
abbrev pub OneWantedGraver : Type 0
OneWantedGraver =
    (S : LinearSystem) (n : ℕ) (first second : List (List ℤ)) → IsWantedGraver S n first
    → IsWantedGraver S n second → first ≡ second

-- of a vector that is not zero and its negative, exactly one leads negative
abbrev pub OneLeadsNegative : Type 0
OneLeadsNegative = (v : List ℤ) → ¬ IsZero v → leads_negative (negated v) ≡ not (leads_negative v)
