-- The unit vectors and their negatives in lexicographic order, by a number.
use Rattle.std.specs.Prelude.{◌≡◌, ℕ, ◌-◌, ◌*◌, ◌<◌, List, ℤ, pos, negsuc, cond, nat_lt}
use Rattle.lift_core.specs.Systems.{LinearSystem, ObeysSigns, ObeysCaps}
use Rattle.lift_core.specs.ToolSystems.{width}
use Rattle.lift_core.specs.Lists.{IsListOf}
use Rattle.lift_core.specs.Inside.Units.{unit}
use Rattle.lift_core.specs.Ends.{solution_cmp}

-- of n columns: the negative ones by ascending column, and then the others by descending column
abbrev pub unit_column : ℕ → ℕ → ℕ
unit_column n i = cond (nat_lt i n) i (2 * n - 1 - i)

abbrev pub unit_entry : ℕ → ℕ → ℤ
unit_entry n i = cond (nat_lt i n) (negsuc 0) (pos 1)

abbrev pub unit_vector : ℕ → ℕ → List ℤ
unit_vector n i = unit n (unit_column n i) (unit_entry n i)

-- v is one of the first i, and obeys signs and caps
pub record IsUnitBefore (S : LinearSystem) (i : ℕ) (v : List ℤ) : Type 0 where
  pub number : ℕ
  pub before : number < i
  pub is : v ≡ unit_vector (width S) number
  pub signs : ObeysSigns S v
  pub caps : ObeysCaps S v

pub record AreUnitsBefore (S : LinearSystem) (i : ℕ) (rows : List (List ℤ)) : Type 0 where
  pub list : IsListOf solution_cmp (IsUnitBefore S i) rows
