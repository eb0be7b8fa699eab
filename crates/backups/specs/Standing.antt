-- What stands in a folder after a run with backups.
use Rattle.std.specs.Prelude.{◌≡◌, ◌⊎◌, ◌≤◌, ◌<◌, ℕ, ℤ, List, [], ◌∷◌, ◌++◌, length, Option, None, Some, Result, Ok, Err, take, slice_index_or, ⊤}
use Rattle.std.specs.List.{AllByRecursion}
use Rattle.std.specs.Option.{ok_or}
use Rattle.std.specs.FinMap.{get}
use Rattle.outside.specs.Files.{Files, written}
use Rattle.outside.specs.Causes.{Rose}
use Rattle.int_vector.specs.Vectors.{norm}
use Rattle.lift_core.specs.Systems.{LinearSystem, Solves}
use Rattle.lift_core.specs.Ends.{End, Limits, finished}
use Rattle.stage_store.specs.Stage.{StageValue}
use Rattle.stage_store.specs.declared.stage.Finish.{Finish}
use Rattle.stage_store.specs.declared.stage.Lifted.{Lifted}
use Rattle.stage_store.specs.declared.stage.Lifted.TheVariants.{Next, Last}
use Rattle.restart_file.specs.Texts.{text_of_stage}
use Rattle.lift_run.specs.declared.ends.RunEnd.{RunEnd}
use Rattle.lift_run.specs.declared.ends.RunEnd.TheVariants.{Failed}
use Rattle.lift_run.specs.Runs.{end_of, end_of_error}
use Rattle.lift_run.specs.Keeps.{Leads, EndsHere, IsClosing}
use Rattle.backups.specs.declared.running.Stopped.{Stopped}
use Rattle.backups.specs.declared.starts.Start.{Start}
use Rattle.backups.specs.declared.starts.Start.TheVariants.{Fresh, Resumed}
use Rattle.backups.specs.Backups.{turned, ends_of_intervals, written_in_turn}
use Rattle.backups.specs.declared.starts.Slot.{Slot}
use Rattle.backups.specs.Starts.{Begins, slot_name, names_from}

-- after every so many closed norms, or never, a backup goes to these names in turn
pub record Turns : Type 0 where
  pub interval : Option ℕ
  pub names : List (List ℕ)

-- the first backup goes to the file of the slot
abbrev pub turns_from : Slot → Option ℕ → List ℕ → List ℕ → Turns
turns_from slot interval first second =
    record { interval = interval; names = names_from slot first second }

-- the stages that are backed up, of those that are closed
abbrev pub backed_up_of : Option ℕ → List StageValue → List StageValue
backed_up_of None closed = []
backed_up_of (Some interval) closed = ends_of_intervals interval interval closed

-- the files with the texts of all backups of the closed stages
abbrev pub backed : Turns → List StageValue → Files → Files
backed turns closed files = written_in_turn turns.names (backed_up_of turns.interval closed) files

-- the names after a turn for each of these
abbrev pub names_after : List (List ℕ) → List StageValue → List (List ℕ)
names_after names [] = names
names_after names (stage ∷ stages) = names_after (turned names) stages

-- the name of the backup that follows those of the closed stages
abbrev pub next_backup : Turns → List StageValue → List ℕ
next_backup turns closed =
    slice_index_or (names_after turns.names (backed_up_of turns.interval closed)) 0 []

-- ---- what a run leaves
-- the stages at the norms that the walk closes on the way to its end, in order
abbrev pub Closes : Limits → Lifted → End → List StageValue → Type 0
Closes limits (Next s) end closed =
    (final : StageValue) × Leads limits s closed final × EndsHere limits final end
Closes limits (Last f) end closed = closed ≡ []

-- the files have all backups of the norms that the walk closes on the way to its end
pub record HasAllBackups (turns : Turns) (limits : Limits) (from : Lifted) (end : End)
    (before : Files) (after : Option Files) : Type 0 where
  pub closed : List StageValue
  pub closes : Closes limits from end closed
  pub files : after ≡ Some (backed turns closed before)

-- all backups of the closed stages are whole, or the one of a further stage was refused: its file is then as before, or has a
-- prefix of its text
abbrev pub MayStandAfter : Turns → Limits → StageValue → List StageValue → Files → Option Files
    → Type 0
MayStandAfter turns limits final closed before after =
    (after ≡ Some (backed turns closed before))
    ⊎ ((t : StageValue) × IsClosing limits final t × (k : ℕ)
    × (after
    ≡ Some (written (next_backup turns closed)
    (take k (text_of_stage t)) (backed turns closed before))))

-- the files have the backups of the first norms that the walk closes, and that of one more may be torn, the one that goes to
-- the file `next`
abbrev pub HasFirstBackups : Turns → Limits → Lifted → List ℕ → Files → Option Files → Type 0
HasFirstBackups turns limits (Next s) next before after =
    (closed : List StageValue) × (final : StageValue) × Leads limits s closed final
    × (next ≡ next_backup turns closed) × MayStandAfter turns limits final closed before after
HasFirstBackups turns limits (Last f) next before after =
    (next ≡ next_backup turns []) × (after ≡ Some before)

-- by the end that the run comes to, or the file of its next backup, where it breaks off
abbrev pub LeavesFrom : Turns → Limits → Lifted → Result End (List ℕ) → Files → Option Files
    → Type 0
LeavesFrom turns limits from (Ok end) before after =
    HasAllBackups turns limits from end before after
LeavesFrom turns limits from (Err next) before after =
    HasFirstBackups turns limits from next before after

-- what a run from a start leaves; it may break off before it begins
abbrev pub LeavesRun : Turns → Limits → Start → Result End (List ℕ) → Files → Option Files → Type 0
LeavesRun turns limits start came before after =
    ((from : Lifted) × Begins start from × LeavesFrom turns limits from came before after)
    ⊎ ((came ≡ Err (next_backup turns [])) × (after ≡ Some before))

-- ---- answers
-- why the run stopped, without the file of its next backup
abbrev pub ended : Result Finish Stopped → Result Finish RunEnd
ended (Ok f) = Ok f
ended (Err s) = Err s.end

abbrev pub named_end : Result Finish Stopped → Option End
named_end result = end_of (ended result)

-- the end that is named, or the name of the file of the next backup, of those of both files, where the run broke off
abbrev pub came_to : List ℕ → List ℕ → Result Finish Stopped → Result End (List ℕ)
came_to first second (Ok f) = Ok (finished f.rows.rows f.pairs)
came_to first second (Err s) = ok_or (end_of_error s.end) (slot_name s.next first second)

-- the count has not fallen, and a failure is answered only where it rose
pub record HasStoppedCause (before now : ℕ) (result : Result Finish Stopped) : Type 0 where
  pub later : before ≤ now
  pub failed : (s : Stopped) → result ≡ Err s → s.end ≡ Failed → Rose before now

-- ---- soundness
-- v is no zero vector and solves all rows
pub record IsSolution (S : LinearSystem) (v : List ℤ) : Type 0 where
  pub solves : Solves S (length S.rows) v
  pub positive : 0 < norm v

abbrev pub AreSolutions : LinearSystem → List (List ℤ) → Type 0
AreSolutions S rows = AllByRecursion (IsSolution S) rows

-- what is finished from a restart file has nonzero solutions alone, whatever stood in the file
abbrev pub IsSoundFrom : Start → Finish → Type 0
IsSoundFrom (Fresh S) f = ⊤
IsSoundFrom (Resumed s slot) f = AreSolutions f.system.equations f.rows.rows

-- ---- one backup is always whole
-- after any backups, whatever a further one leaves in its file, the last of them stands whole in the other file
abbrev pub OneStands : Type 0
OneStands =
    (first second : List ℕ) (stages : List StageValue) (last : StageValue) (files : Files)
    (torn : List ℕ)
    → (first ≡ second → ⊥)
    → (name : List ℕ)
    × (get (written
    (slice_index_or (names_after (first ∷ second ∷ []) (stages ++ last ∷ [])) 0 []) torn
    (written_in_turn (first ∷ second ∷ []) (stages ++ last ∷ []) files)) name
    ≡ Some (text_of_stage last))
