-- Laws on the numbering.
use Rattle.std.specs.Prelude.{◌≡◌, ℕ, ◌<◌, List, ℤ, [], length, slice_index_or}
use Rattle.std.specs.List.Sorted.{IsStrictlySortedBy}
use Rattle.lift_core.specs.PureMachine.{AreNumbered}
use Rattle.lift_core.specs.Stages.{norm_cmp}
use Rattle.stage_store.specs.Classes.{pairs_of}

-- the list has exactly the pairs of the norm
abbrev pub PairsAreNumbered : Type 0
PairsAreNumbered = (listed : List (List ℤ)) (e : ℕ) → AreNumbered listed e (pairs_of listed e)

-- each once
abbrev pub PairsStandOnce : Type 0
PairsStandOnce =
    (listed : List (List ℤ)) (e p q : ℕ) → IsStrictlySortedBy norm_cmp listed
    → p < length (pairs_of listed e) → q < length (pairs_of listed e)
    → slice_index_or (pairs_of listed e) p ([], []) ≡ slice_index_or (pairs_of listed e) q ([], [])
    → p ≡ q
