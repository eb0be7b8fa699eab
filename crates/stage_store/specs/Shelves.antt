-- The shelves: which pairs are kept.
use Rattle.std.specs.Prelude.{◌≡◌, ◌%◌, ◌<◌, [], slice_index_or}
use Rattle.std.specs.List.{Contains}
use Rattle.stage_store.specs.declared.sieve.KeptPair.{KeptPair}
use Rattle.stage_store.specs.declared.shelves.Shelves.{Shelves}

-- where the norm is one of which pairs are kept, the pair is on its shelf
abbrev pub IsKept : Shelves → KeptPair → Type 0
IsKept v p =
    v.closed < p.norm → p.norm < v.horizon
    → Contains (slice_index_or v.shelves.items (p.norm % 256) []) p

-- the same norms are closed, and what is kept stays so
pub record Stay (old new : Shelves) : Type 0 where
  pub same_closed : new.closed ≡ old.closed
  pub kept : (p : KeptPair) → IsKept old p → IsKept new p
