-- Where a run starts: from nothing, or from the stage of a restart file.
use Rattle.std.specs.Prelude.{◌≡◌, ◌⊎◌, ◌≤◌, ℕ, List, [], ◌∷◌, Bool, true, false, ◌&&◌, ◌||◌, ◌==◌, nat_lt, Option, Result, Ok, Err, ⊤}
use Rattle.std.specs.FinMap.{get}
use Rattle.outside.specs.Files.{Files}
use Rattle.outside.specs.Causes.{Rose}
use Rattle.lift_core.specs.Systems.{ToolSystem}
use Rattle.lift_core.specs.Ends.{End, Limits, RunEnds, EndsIn}
use Rattle.stage_store.specs.Stage.{StageValue, IsStage, IsDefined}
use Rattle.stage_store.specs.Lifted.{IsFirst}
use Rattle.stage_store.specs.declared.stage.Lifted.{Lifted}
use Rattle.stage_store.specs.declared.stage.Lifted.TheVariants.{Next}
use Rattle.lift_run.specs.Runs.{StageWalks}
use Rattle.restart_file.specs.Reading.{IsReading}
use Rattle.restart_file.specs.Texts.{progress_of}
use Rattle.restart_file.specs.declared.ends.RestartFault.{RestartFault}
use Rattle.backups.specs.declared.starts.Slot.{Slot}
use Rattle.backups.specs.declared.starts.Slot.TheVariants.{First, Second}
use Rattle.backups.specs.declared.starts.Start.{Start}
use Rattle.backups.specs.declared.starts.Start.TheVariants.{Fresh, Resumed}
use Rattle.backups.specs.declared.starts.StartEnd.{StartEnd}
use Rattle.backups.specs.declared.starts.StartEnd.TheVariants as end

-- ---- which file is taken
-- what stands in the two restart files, none where a file is not there
pub record Stored : Type 0 where
  pub first : Option (List ℕ)
  pub second : Option (List ℕ)

abbrev pub stored_in : List ℕ → List ℕ → Files → Stored
stored_in first second files = record { first = get files first; second = get files second }

-- the file is accepted for the system, and this stage stands in it
pub record StandsIn (S : ToolSystem) (file : Option (List ℕ)) (s : StageValue) : Type 0 where
  pub system_is : s.system ≡ S
  pub reading : IsReading S file (Ok (progress_of s))

-- the file is not accepted, and this is its first fault
abbrev pub HasFirstFault : ToolSystem → Option (List ℕ) → RestartFault → Type 0
HasFirstFault S file fault = IsReading S file (Err fault)

-- the place of s is later than that of t: a greater stage, or a greater norm of the same one
abbrev pub is_later : StageValue → StageValue → Bool
is_later s t = nat_lt t.number s.number || ((t.number == s.number) && nat_lt t.norm s.norm)

-- the file is not accepted, or its place is not later
abbrev pub IsNotLater : ToolSystem → Option (List ℕ) → StageValue → Type 0
IsNotLater S file s =
    ((f : RestartFault) × HasFirstFault S file f)
    ⊎ ((t : StageValue) × StandsIn S file t × (is_later t s ≡ false))

-- the file is not accepted, or its place is earlier
abbrev pub IsEarlier : ToolSystem → Option (List ℕ) → StageValue → Type 0
IsEarlier S file s =
    ((f : RestartFault) × HasFirstFault S file f)
    ⊎ ((t : StageValue) × StandsIn S file t × (is_later s t ≡ true))

-- the file with the later place is taken, and the first where both places are the same
abbrev pub IsChosen : ToolSystem → Stored → StageValue → Slot → Type 0
IsChosen S files s First = StandsIn S files.first s × IsNotLater S files.second s
IsChosen S files s Second = StandsIn S files.second s × IsEarlier S files.first s

-- a run that is resumed starts from the stage of the file that is taken
abbrev pub Resumes : ToolSystem → Stored → Start → Type 0
Resumes S files (Fresh T) = ⊥
Resumes S files (Resumed s slot) = IsChosen S files s slot

-- the start, or the first fault of each file where neither is accepted
abbrev pub FindsStart : ToolSystem → Stored → Result Start StartEnd → Type 0
FindsStart S files (Ok start) = Resumes S files start
FindsStart S files (Err (end.Refused f g)) =
    HasFirstFault S files.first f × HasFirstFault S files.second g
FindsStart S files (Err (end.Failed slot)) = ⊤
FindsStart S files (Err end.Memory) = ⊤

-- the count has not fallen, and a failure is answered only where it rose
pub record HasStartCause {T : Type 0} (before now : ℕ) (result : Result T StartEnd) : Type 0 where
  pub later : before ≤ now
  pub failed : (slot : Slot) → result ≡ Err (end.Failed slot) → Rose before now

-- ---- what a run from there comes to
abbrev pub system_of : Start → ToolSystem
system_of (Fresh S) = S
system_of (Resumed s slot) = s.system

-- the lists, the place and the used pairs of the start are the defined ones of its system: a fresh start has them, and a
-- restart file has them exactly where an earlier run from such a start can have written it
abbrev pub IsDefinedStart : Start → Type 0
IsDefinedStart (Fresh S) = ⊤
IsDefinedStart (Resumed s slot) = IsDefined s

-- a fresh run comes to the end of its system; a resumed one to the end of the walk of the lists that were read, and where
-- these are the defined ones that is the end of its system from that place on
abbrev pub StartComesTo : Limits → Start → End → Type 0
StartComesTo limits (Fresh S) end = RunEnds S.equations limits end
StartComesTo limits (Resumed s slot) end =
    StageWalks limits s end × (IsDefined s → EndsIn s.system.equations limits s.number s.norm end)

-- what the run begins with: the first stage of the system or the finish of one without equations, or the stage that was read
abbrev pub Begins : Start → Lifted → Type 0
Begins (Fresh S) from = IsFirst S from
Begins (Resumed s slot) from = from ≡ Next s

-- what the type of a stage keeps
abbrev pub KeepsStage : Start → Type 0
KeepsStage (Fresh S) = ⊤
KeepsStage (Resumed s slot) = IsStage s

-- ---- the two names
-- the file that the first backup goes to: the one that was not taken
abbrev pub first_slot : Start → Slot
first_slot (Fresh S) = First
first_slot (Resumed s First) = Second
first_slot (Resumed s Second) = First

abbrev pub other_slot : Slot → Slot
other_slot First = Second
other_slot Second = First

abbrev pub slot_name : Slot → List ℕ → List ℕ → List ℕ
slot_name First first second = first
slot_name Second first second = second

-- both names, that of the slot first
abbrev pub names_from : Slot → List ℕ → List ℕ → List (List ℕ)
names_from slot first second =
    slot_name slot first second ∷ slot_name (other_slot slot) first second ∷ []
