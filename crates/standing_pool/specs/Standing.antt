-- What passes between the threads: a part of a norm, and a norm that is worked out, each over the defined lists of a place.
use Rattle.std.specs.Prelude.{◌≡◌, ℕ, ◌+◌, ◌≤◌, List, ℤ}
use Rattle.int_vector.specs.Vectors.{largest}
use Rattle.lift_core.specs.Systems.{LinearSystem, ToolSystem}
use Rattle.lift_core.specs.ToolSystems.{width}
use Rattle.lift_core.specs.Stages.{IsListed, IsWaiting, IsNextNorm, norm_cmp}
use Rattle.lift_core.specs.PairSums.{IsNewSum}
use Rattle.lift_core.specs.Lists.{IsListOf}
use Rattle.row_pool.specs.Rows.{PoolValue}
use Rattle.stage_store.specs.declared.stage.Closed.{Closed}
use Rattle.standing_pool.specs.Parts.{IsPartList}

-- the system, the stage's number and the last closed norm; the norm, the part and the number of parts; and the rows
pub record PartValue : Type 0 where
  pub system : ToolSystem
  pub number : ℕ
  pub closed : ℕ
  pub norm : ℕ
  pub part : ℕ
  pub parts : ℕ
  pub rows : PoolValue

-- over the listed rows at the place, the rows are part i of w of norm e
pub record IsPart (S : LinearSystem) (k d e i w : ℕ) (rows : PoolValue) : Type 0 where
  pub listed : List (List ℤ)
  pub is_listed : IsListed S k d listed
  pub width_is : rows.width ≡ width S + 1
  pub rows_are : IsPartList S listed e i w rows.rows

-- the system, the stage's number and the last closed norm; the norm that is worked out, and its rows
pub record NewsValue : Type 0 where
  pub system : ToolSystem
  pub number : ℕ
  pub closed : ℕ
  pub norm : ℕ
  pub rows : PoolValue

-- over the lists at the place, e is the next norm and in range, and the rows are all its irreducible sums
pub record IsNews (S : LinearSystem) (k d e : ℕ) (rows : PoolValue) : Type 0 where
  pub listed : List (List ℤ)
  pub waiting : List (List ℤ)
  pub is_listed : IsListed S k d listed
  pub is_waiting : IsWaiting S k d waiting
  pub next : IsNextNorm listed waiting d e
  pub small : e ≤ largest
  pub width_is : rows.width ≡ width S + 1
  pub rows_are : IsListOf norm_cmp (IsNewSum S listed e) rows.rows

-- the norm with its rows
abbrev pub closed_of : NewsValue → Closed
closed_of n = record { norm = n.norm; rows = n.rows }
