-- The sums of a part by the numbers of its pairs, and of several parts.
use Rattle.std.specs.Prelude.{◌≡◌, ◌↔◌, ◌⊎◌, ℕ, ◌%◌, ◌+◌, ◌<◌, ◌≤◌, List, ℤ, length}
use Rattle.std.specs.List.{Contains}
use Rattle.lift_core.specs.ToolSystems.{width}
use Rattle.lift_core.specs.Stages.{IsNextNorm}
use Rattle.row_pool.specs.Rows.{PoolValue}
use Rattle.stage_store.specs.Stage.{StageValue}
use Rattle.stage_store.specs.Classes.{row_at}
use Rattle.stage_store.specs.Found.{IsSumOf}
use Rattle.stage_store.specs.Numbered.{pair_at}
use Rattle.stage_store.specs.Published.{IsClosedNorm}
use Rattle.stage_store.specs.declared.stage.Closed.{Closed}
use Rattle.standing_pool.specs.Parts.{IsPartSum, IsPartList}

-- z is the irreducible sum of a pair with a number from one on and below another, whose first row's place leaves the rest i
pub record IsPartNumbered (s : StageValue) (e i w from to : ℕ) (z : List ℤ) : Type 0 where
  pub number : ℕ
  pub at_least : from ≤ number
  pub below : number < to
  pub place : ℕ
  pub inside : place < length s.listed
  pub first_is : (pair_at s e number).0 ≡ row_at s.listed place
  pub rest : place % w ≡ i
  pub sum : IsSumOf s.system.equations s.listed (pair_at s e number).0 (pair_at s e number).1 z

-- besides what was there, the sums of part i among these numbers are there
abbrev pub GainsPart : StageValue → ℕ → ℕ → ℕ → ℕ → ℕ → List (List ℤ) → List (List ℤ) → Type 0
GainsPart s e i w from to old new =
    (z : List ℤ) → Contains new z ↔ (Contains old z ⊎ IsPartNumbered s e i w from to z)

-- besides what was there, the sums of the part are there
abbrev pub GainsSums : StageValue → ℕ → ℕ → ℕ → List (List ℤ) → List (List ℤ) → Type 0
GainsSums s e i w old new =
    (z : List ℤ) → Contains new z ↔ (Contains old z ⊎ IsPartSum s.system.equations s.listed e i w z)

-- the rows are the sums of the parts below n
abbrev pub AreParts : StageValue → ℕ → ℕ → ℕ → List (List ℤ) → Type 0
AreParts s e w n rows =
    (z : List ℤ) → Contains rows z ↔
    ((i : ℕ) × (i < n) × IsPartSum s.system.equations s.listed e i w z)

-- the rows are part i of w of norm e of the stage
pub record FitsPart (s : StageValue) (e i w : ℕ) (rows : PoolValue) : Type 0 where
  pub width_is : rows.width ≡ width s.system.equations + 1
  pub rows_are : IsPartList s.system.equations s.listed e i w rows.rows

-- the norm is the stage's next one, and the rows are its irreducible sums
pub record IsNextClosed (s : StageValue) (c : Closed) : Type 0 where
  pub next : IsNextNorm s.listed s.waiting s.norm c.norm
  pub small : c.norm ≤ 9223372036854775807
  pub closed : IsClosedNorm s c.norm c
