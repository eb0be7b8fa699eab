-- A stage: its place, the pairs used in the stages before it, and its lists.
use Rattle.std.specs.Prelude.{◌≡◌, ℕ, ◌+◌, ◌*◌, ◌≤◌, ◌<◌, ◌^◌, List, [], ℤ, length, slice_index_or}
use Rattle.std.specs.List.{AllByRecursion}
use Rattle.std.specs.List.Sorted.{IsStrictlySortedBy}
use Rattle.lift_core.specs.Systems.{LinearSystem, ToolSystem}
use Rattle.lift_core.specs.ToolSystems.{IsToolSystem, width}
use Rattle.lift_core.specs.Stages.{IsStageVector, stage_norm, norm_cmp, IsListed, IsWaiting, pairs_within, AreUsed}
use Rattle.int_vector.specs.Vectors.{largest}

pub record StageValue : Type 0 where
  pub system : ToolSystem
  pub number : ℕ
  pub norm : ℕ
  pub before : ℕ
  pub listed : List (List ℤ)
  pub waiting : List (List ℤ)

-- the pairs used up to the stage's norm
abbrev pub used_of : StageValue → ℕ
used_of s = s.before + pairs_within s.listed s.norm

-- a vector of stage k that is not zero, of a norm in range
pub record IsStageRow (S : LinearSystem) (k : ℕ) (z : List ℤ) : Type 0 where
  pub vector : IsStageVector S k z
  pub positive : 0 < stage_norm z
  pub small : stage_norm z ≤ largest
  pub entries : length z ≡ width S + 1

-- what each stage keeps
pub record IsStage (s : StageValue) : Type 0 where
  pub system_kept : IsToolSystem s.system
  pub number_from : 0 < s.number
  pub number_to : s.number ≤ length s.system.equations.rows
  pub norm_small : s.norm ≤ largest
  pub before_small : s.before ≤ 2 ^ 62 + s.number * 2 ^ 42
  pub listed_rows : AllByRecursion (IsStageRow s.system.equations s.number) s.listed
  pub waiting_rows : AllByRecursion (IsStageRow s.system.equations s.number) s.waiting
  pub listed_ascending : IsStrictlySortedBy norm_cmp s.listed
  pub waiting_ascending : IsStrictlySortedBy norm_cmp s.waiting
  pub listed_norms : AllByRecursion (λ z. stage_norm z ≤ s.norm) s.listed
  pub waiting_norms : AllByRecursion (λ z. s.norm < stage_norm z) s.waiting
  pub listed_length : length s.listed ≤ 2 ^ 21
  pub waiting_length : length s.waiting ≤ 2 ^ 21

-- the lists and the used pairs are the defined ones
pub record IsDefined (s : StageValue) : Type 0 where
  pub listed : IsListed s.system.equations s.number s.norm s.listed
  pub waiting : IsWaiting s.system.equations s.number s.norm s.waiting
  pub used : AreUsed s.system.equations s.number s.norm (used_of s)

abbrev pub norm_of : StageValue → ℕ
norm_of s = s.norm

abbrev pub equations_of : StageValue → LinearSystem
equations_of s = s.system.equations

abbrev pub waiting_of : StageValue → List (List ℤ)
waiting_of s = s.waiting

abbrev pub listed_of : StageValue → List (List ℤ)
listed_of s = s.listed

abbrev pub row_of : ℕ → StageValue → List ℤ
row_of i s = slice_index_or s.listed i []

abbrev pub width_of : StageValue → ℕ
width_of s = width s.system.equations
