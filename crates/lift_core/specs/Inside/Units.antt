-- The minimal solutions of no rows: the unit vectors, and their negatives, that obey the signs and caps.
use Rattle.std.specs.Prelude.{◌≡◌, ℕ, ◌<◌, List, ℤ, pos, nat_abs, slice_index_or, slice_set, replicate, None}
use Rattle.lift_core.specs.Systems.{LinearSystem}
use Rattle.lift_core.specs.ToolSystems.{width}
use Rattle.lift_core.specs.Columns.{HasSign, IsCapped}

-- the vector of n entries with a at place j and 0 elsewhere
abbrev pub unit : ℕ → ℕ → ℤ → List ℤ
unit n j a = slice_set (replicate n (pos 0)) j a

-- v has 1 or -1 in one column, as its sign and cap allow, and 0 elsewhere
pub record IsSignedUnit (S : LinearSystem) (v : List ℤ) : Type 0 where
  pub column : ℕ
  pub inside : column < width S
  pub entry : ℤ
  pub one : nat_abs entry ≡ 1
  pub sign : HasSign (slice_index_or S.signs column (pos 0)) entry
  pub cap : IsCapped (slice_index_or S.caps column None) entry
  pub is : v ≡ unit (width S) column entry
