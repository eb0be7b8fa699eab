-- The way through the lines of a file that is read in pieces.
use Rattle.std.specs.Prelude.{◌≡◌, ◌≤◌, ◌<◌, ◌+◌, ℕ, List, Result, Ok, Err, ⊤, length}
use Rattle.lift_core.specs.Systems.{ToolSystem}
use Rattle.lift_core.specs.Stages.{pairs_within}
use Rattle.stage_store.specs.Stage.{StageValue}
use Rattle.restart_file.specs.declared.drafts.Draft.{Draft}
use Rattle.restart_file.specs.declared.dues.Due.TheVariants.{LastLine}
use Rattle.restart_file.specs.declared.ends.RestartEnd.{RestartEnd}
use Rattle.restart_file.specs.declared.ends.RestartEnd.TheVariants.{Bad, Failed, Memory}
use Rattle.restart_file.specs.declared.ends.RestartFault.{RestartFault}
use Rattle.restart_file.specs.declared.windows.Window.{Window}
use Rattle.restart_file.specs.Texts.{Progress, progress_of}
use Rattle.restart_file.specs.Reading.{Cursor, ReadsToEnd, start}
use Rattle.restart_file.specs.Inside.Drafts.{HasWidths, IsTrueSoFar, cursor_of, progress_in}
use Rattle.restart_file.specs.Inside.Windows.{IsTextLeft}

-- what is read from a cursor on in line l is what was to be read
abbrev pub LeadsTo : ToolSystem → Cursor → ℕ → List ℕ → Cursor → ℕ → List ℕ → Type 0
LeadsTo S c l bytes next m rest =
    (out : Result Progress RestartFault) → ReadsToEnd S next m rest out → ReadsToEnd S c l bytes out

-- a line was read, and it is right
pub record IsLineRead (S : ToolSystem) (text rest : List ℕ) (w : Window) (c next : Cursor) (l : ℕ)
    : Type 0 where
  pub others : List ℕ
  pub left : IsTextLeft text w others
  pub fewer : length others < length rest
  pub leads : LeadsTo S c l rest next (l + 1) others

-- a line was read, or it has the first fault
abbrev pub ReadsLine : {T : Type 0} → ToolSystem → List ℕ → List ℕ → Window → Cursor → Cursor → ℕ
    → Result T RestartEnd → Type 0
ReadsLine S text rest w c next l (Ok t) = IsLineRead S text rest w c next l
ReadsLine S text rest w c next l (Err (Bad f)) = ReadsToEnd S c l rest (Err f)
ReadsLine S text rest w c next l (Err Failed) = ⊤
ReadsLine S text rest w c next l (Err Memory) = ⊤

-- after so many turns the lines before line l are read
pub record IsOnTheWay (S : ToolSystem) (text : List ℕ) (w : Window) (c : Cursor) (l turns : ℕ)
    : Type 0 where
  pub rest : List ℕ
  pub left : IsTextLeft text w rest
  pub fewer : length rest + turns ≤ length text
  pub leads : LeadsTo S start 1 text c l rest

-- all was read
pub record IsAllRead (S : ToolSystem) (d : Draft) : Type 0 where
  pub sound : IsTrueSoFar S (cursor_of d)
  pub widths : HasWidths S d
  pub last : d.due ≡ LastLine
  pub enough : pairs_within d.listed.rows d.norm ≤ d.used

-- the stage of what was read, or out of memory
abbrev pub Builds : ToolSystem → Draft → Result StageValue RestartEnd → Type 0
Builds S d (Ok s) = (s.system ≡ S) × (progress_of s ≡ progress_in d)
Builds S d (Err (Bad f)) = ⊥
Builds S d (Err Failed) = ⊥
Builds S d (Err Memory) = ⊤
