-- The laws of the pure machine: every complete run gives the same list.
use Rattle.std.specs.Prelude.{◌≡◌, ℕ, ◌+◌, ◌*◌, ◌≤◌, List, ℤ, true, length}
use Rattle.lift_core.specs.Systems.{LinearSystem}
use Rattle.lift_core.specs.Lists.{IsListOf}
use Rattle.lift_core.specs.Stages.{norm_cmp}
use Rattle.lift_core.specs.PairSums.{IsNewSum}
use Rattle.lift_core.specs.Times.{times, total_of, once_below}
use Rattle.lift_core.specs.PureMachine.{CoreState, core_start, Runs, AreNumbered, IsSumsOf}
use Rattle.lift_core.specs.declared.machine.Event.{Event}

-- each number below the next one is in the book or with one pass, once, and no other number is
abbrev pub EachNumberOnce : Type 0
EachNumberOnce =
    (blocks passes : ℕ) (events : List Event) (s : CoreState)
    → Runs (core_start blocks passes) events s
    → (n : ℕ) → times n s.book + total_of (times n) s.held ≡ once_below n s.next

-- in the book of a closed machine each number of a block stands exactly once and no other does, whatever the order of events
abbrev pub EachBlockOnce : Type 0
EachBlockOnce =
    (blocks passes : ℕ) (events : List Event) (s : CoreState)
    → Runs (core_start blocks passes) events s → s.closed ≡ true
    → (n : ℕ) → times n s.book ≡ once_below n blocks

-- so the sums of the book's blocks are all irreducible sums of the norm
abbrev pub BookHasAllSums : Type 0
BookHasAllSums =
    (S : LinearSystem) (listed : List (List ℤ)) (e : ℕ) (pairs : List (List ℤ × List ℤ))
    → AreNumbered listed e pairs
    → (blocks passes : ℕ) (events : List Event) (s : CoreState)
    → length pairs ≤ 256 * blocks → Runs (core_start blocks passes) events s → s.closed ≡ true
    → (rows : List (List ℤ)) → IsSumsOf S listed pairs s.book rows
    → IsListOf norm_cmp (IsNewSum S listed e) rows
