-- How far a first row reaches among rows in ascending order: the rows with which it has a norm of
-- at most e stand first.
use Rattle.std.specs.Prelude.{◌≡◌, ℕ, ◌+◌, ◌≤◌, ◌<◌, List, ℤ, length, take}
use Rattle.std.specs.List.{count_by}
use Rattle.lift_core.specs.Stages.{stage_norm, has_negative_last}
use Rattle.stage_store.specs.Classes.{row_at}

-- the rows before place `end` have with norm n a norm of at most e, and so many of them have a last
-- entry below 0
pub record IsWithinReach (listed : List (List ℤ)) (n e end seconds : ℕ) : Type 0 where
  pub inside : end ≤ length listed
  pub count : seconds ≡ count_by has_negative_last (take end listed)
  pub within : (k : ℕ) → k < end → n + stage_norm (row_at listed k) ≤ e

-- the rows from place `end` on have not
abbrev pub IsBeyondReach : List (List ℤ) → ℕ → ℕ → ℕ → Type 0
IsBeyondReach listed n e end =
    (k : ℕ) → end ≤ k → k < length listed → e < n + stage_norm (row_at listed k)
