-- What is true of the system of every run, and the system that is built of vectors of entries.
use Rattle.std.specs.Prelude.{◌≡◌, ℕ, ◌-◌, ◌≤◌, ◌<◌, ◌⊎◌, List, [], ◌∷◌, ◌++◌, ℤ, pos, negsuc, drop, length, replicate, Option, None, Some, ⊤, slice_index_or}
use Rattle.std.specs.List.{All}
use Rattle.int_vector.specs.Range.{InRange, IsCap}
use Rattle.lift_core.specs.Lists.{cut_rows}
use Rattle.lift_core.specs.Systems.{LinearSystem, ToolSystem}
use Rattle.lift_core.specs.declared.Tool.{Tool}
use Rattle.lift_core.specs.declared.Tool.TheVariants.{Graver, Hilbert, Zsolve}

-- the number of columns
abbrev pub width : LinearSystem → ℕ
width S = length S.signs

-- the sign of a column: at least 0, at most 0, or free
abbrev pub IsSign : ℤ → Type 0
IsSign s = (s ≡ pos 1) ⊎ (s ≡ negsuc 0) ⊎ (s ≡ pos 2)

-- the caps of the w columns behind the user's: slacks have none, and x0, the last column of zsolve, has cap 1
abbrev pub caps_behind : Tool → ℕ → List (Option ℕ)
caps_behind Graver w = replicate w None
caps_behind Hilbert w = replicate w None
caps_behind Zsolve w = replicate (w - 1) None ++ (Some 1 ∷ [])

-- the caps of all columns, n of which are the user's
pub record AreCaps (tool : Tool) (n : ℕ) (caps : List (Option ℕ)) : Type 0 where
  pub known : All IsCap caps
  pub behind : drop n caps ≡ caps_behind tool (length caps - n)

-- x0, the last column of zsolve, stands behind the n columns of the user's, and is at least 0
abbrev pub HasRoomForX0 : Tool → ℕ → List ℤ → Type 0
HasRoomForX0 Graver n signs = ⊤
HasRoomForX0 Hilbert n signs = ⊤
HasRoomForX0 Zsolve n signs =
    (n < length signs) × (slice_index_or signs (length signs - 1) (pos 0) ≡ pos 1)

-- what is true of the system of every run
pub record IsToolSystem (T : ToolSystem) : Type 0 where
  pub some_columns : 1 ≤ T.n
  pub most_columns : T.n ≤ 64
  pub first_columns : T.n ≤ width T.equations
  pub most_width : width T.equations ≤ 129
  pub most_rows : length T.equations.rows ≤ 64
  pub row_lengths : All (λ r. length r ≡ width T.equations) T.equations.rows
  pub entries : All (λ r. All InRange r) T.equations.rows
  pub signs : All IsSign T.equations.signs
  pub cap_count : length T.equations.caps ≡ width T.equations
  pub caps : AreCaps T.tool T.n T.equations.caps
  pub x0 : HasRoomForX0 T.tool T.n T.equations.signs

-- the system whose m rows stand in the entries one after another
abbrev pub built_system : Tool → ℕ → List ℤ → List (Option ℕ) → ℕ → List ℤ → ToolSystem
built_system tool n signs caps m cells = record {
  tool = tool;
  n = n;
  equations = record { signs = signs; caps = caps; rows = cut_rows m (length signs) cells };
}
