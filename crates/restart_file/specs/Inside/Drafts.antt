-- What was read of a restart text, as fields, and what is true of it.
use Rattle.std.specs.Prelude.{◌≡◌, ◌≤◌, ◌<◌, ◌+◌, ◌^◌, ℕ, List, ℤ, Bool, true, false, Result, Ok, Err, ⊤, length}
use Rattle.std.specs.List.{AllByRecursion}
use Rattle.std.specs.List.Sorted.{IsStrictlySortedBy}
use Rattle.lift_core.specs.Systems.{ToolSystem}
use Rattle.lift_core.specs.ToolSystems.{width}
use Rattle.lift_core.specs.Stages.{norm_cmp, stage_norm}
use Rattle.stage_store.specs.Stage.{IsStageRow}
use Rattle.restart_file.specs.declared.drafts.Draft.{Draft}
use Rattle.restart_file.specs.declared.lines.Version.{Version}
use Rattle.restart_file.specs.declared.rows.Found.{Found}
use Rattle.restart_file.specs.declared.rows.Found.TheVariants.{NoRow, NoSolution, StageRow}
use Rattle.restart_file.specs.declared.dues.Due.{Due}
use Rattle.restart_file.specs.declared.dues.Due.TheVariants.{FirstLine, SystemLine, PlaceLine, UsedLine, ListedLine, ListedRow, ClassesLine, WaitingLine, WaitingRow, LastLine}
use Rattle.restart_file.specs.declared.ends.RestartEnd.{RestartEnd}
use Rattle.restart_file.specs.declared.ends.RestartEnd.TheVariants.{Bad, Failed, Memory}
use Rattle.restart_file.specs.Texts.{Progress, system_lines}
use Rattle.restart_file.specs.Reading.{Cursor, Follows, HasFault, HasNoStageRow, IsStagePlace, IsRow, ReadsToEnd, at}

abbrev pub progress_in : Draft → Progress
progress_in d = record {
  number = d.number;
  norm = d.norm;
  used = d.used;
  listed = d.listed.rows;
  waiting = d.waiting.rows;
}

abbrev pub cursor_of : Draft → Cursor
cursor_of d = at d.version d.due (progress_in d)

pub record HasWidths (S : ToolSystem) (d : Draft) : Type 0 where
  pub listed : d.listed.width ≡ width S.equations + 1
  pub waiting : d.waiting.width ≡ width S.equations + 1

-- whether the place was read
abbrev pub is_placed : Due → Bool
is_placed FirstLine = false
is_placed (SystemLine i) = false
is_placed PlaceLine = false
is_placed UsedLine = true
is_placed ListedLine = true
is_placed (ListedRow n) = true
is_placed ClassesLine = true
is_placed WaitingLine = true
is_placed (WaitingRow n) = true
is_placed LastLine = true

-- how many listed rows may come yet
abbrev pub listed_left : Due → ℕ
listed_left FirstLine = 2 ^ 21
listed_left (SystemLine i) = 2 ^ 21
listed_left PlaceLine = 2 ^ 21
listed_left UsedLine = 2 ^ 21
listed_left ListedLine = 2 ^ 21
listed_left (ListedRow n) = n
listed_left ClassesLine = 0
listed_left WaitingLine = 0
listed_left (WaitingRow n) = 0
listed_left LastLine = 0

-- how many waiting rows may come yet
abbrev pub waiting_left : Due → ℕ
waiting_left FirstLine = 2 ^ 21
waiting_left (SystemLine i) = 2 ^ 21
waiting_left PlaceLine = 2 ^ 21
waiting_left UsedLine = 2 ^ 21
waiting_left ListedLine = 2 ^ 21
waiting_left (ListedRow n) = 2 ^ 21
waiting_left ClassesLine = 2 ^ 21
waiting_left WaitingLine = 2 ^ 21
waiting_left (WaitingRow n) = n
waiting_left LastLine = 0

-- a line of the system that is due is one of its lines, and a row that is due is one at least
abbrev pub IsDue : ToolSystem → Version → Due → Type 0
IsDue S v FirstLine = ⊤
IsDue S v (SystemLine i) = i < length (system_lines v S)
IsDue S v PlaceLine = ⊤
IsDue S v UsedLine = ⊤
IsDue S v ListedLine = ⊤
IsDue S v (ListedRow n) = 0 < n
IsDue S v ClassesLine = ⊤
IsDue S v WaitingLine = ⊤
IsDue S v (WaitingRow n) = 0 < n
IsDue S v LastLine = ⊤

-- what is true of all that was read
pub record IsTrueSoFar (S : ToolSystem) (c : Cursor) : Type 0 where
  pub due : IsDue S c.version c.due
  pub place : is_placed c.due ≡ true → IsStagePlace S c.so_far.number c.so_far.norm
  pub used : c.so_far.used ≤ 2 ^ 62
  pub listed_room : length c.so_far.listed + listed_left c.due ≤ 2 ^ 21
  pub waiting_room : length c.so_far.waiting + waiting_left c.due ≤ 2 ^ 21
  pub listed_rows : AllByRecursion (IsStageRow S.equations c.so_far.number) c.so_far.listed
  pub waiting_rows : AllByRecursion (IsStageRow S.equations c.so_far.number) c.so_far.waiting
  pub listed_ascending : IsStrictlySortedBy norm_cmp c.so_far.listed
  pub waiting_ascending : IsStrictlySortedBy norm_cmp c.so_far.waiting
  pub listed_norms : AllByRecursion (λ z. stage_norm z ≤ c.so_far.norm) c.so_far.listed
  pub waiting_norms : AllByRecursion (λ z. c.so_far.norm < stage_norm z) c.so_far.waiting

-- what was found in the line of a row
abbrev pub IsFound : ToolSystem → ℕ → List ℕ → List ℤ → Found → Type 0
IsFound S k line z NoRow = (y : List ℤ) → IsRow S line y → ⊥
IsFound S k line z NoSolution = IsRow S line z × (IsStageRow S.equations k z → ⊥)
IsFound S k line z StageRow = IsRow S line z × IsStageRow S.equations k z

-- the line is right and leads to the cursor, or it has the fault
abbrev pub TakesLine : {T : Type 0} → ToolSystem → Version → Due → Progress → List ℕ → ℕ → Cursor
    → Result T RestartEnd → Type 0
TakesLine S v due p line l next (Ok t) = Follows S v due p line next
TakesLine S v due p line l next (Err (Bad f)) = HasFault S v due p line l f
TakesLine S v due p line l next (Err Failed) = ⊥
TakesLine S v due p line l next (Err Memory) = ⊤

-- the entries are those of a row of the stage in the line, or the line has the fault
abbrev pub RowSteps : {T : Type 0} → ToolSystem → ℕ → List ℕ → ℕ → List ℤ → Result T RestartEnd
    → Type 0
RowSteps S k line l z (Ok t) = IsRow S line z × IsStageRow S.equations k z
RowSteps S k line l z (Err (Bad f)) = HasNoStageRow S k line l f
RowSteps S k line l z (Err Failed) = ⊥
RowSteps S k line l z (Err Memory) = ⊤

-- what the bytes are read to
abbrev pub ReadsTo : ToolSystem → Cursor → ℕ → List ℕ → Result Draft RestartEnd → Type 0
ReadsTo S c l bytes (Ok d) = ReadsToEnd S c l bytes (Ok (progress_in d))
ReadsTo S c l bytes (Err (Bad f)) = ReadsToEnd S c l bytes (Err f)
ReadsTo S c l bytes (Err Failed) = ⊤
ReadsTo S c l bytes (Err Memory) = ⊤
