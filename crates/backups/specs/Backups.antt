-- What the backups of a run leave in a folder.
use Rattle.std.specs.Prelude.{◌≡◌, ◌⊎◌, ◌≤◌, ℕ, ◌-◌, List, [], ◌∷◌, ◌++◌, take, nat_lt, if◌then◌else◌, slice_index_or}
use Rattle.std.specs.Option.{option_map}
use Rattle.std.specs.List.{fold}
use Rattle.outside.specs.Files.{Files, written}
use Rattle.stage_store.specs.Stage.{StageValue}
use Rattle.restart_file.specs.Texts.{text_of_stage}
use Rattle.backups.specs.declared.keeper.BackupState.{BackupState}
use Rattle.backups.specs.Starts.{other_slot, slot_name, names_from}

-- both names, that of the next file first
abbrev pub names_in_turn : BackupState → List (List ℕ)
names_in_turn s = names_from s.slot (slice_index_or s.names 0 []) (slice_index_or s.names 1 [])

-- the name that the next backup goes to
abbrev pub next_name : BackupState → List ℕ
next_name s = slot_name s.slot (slice_index_or s.names 0 []) (slice_index_or s.names 1 [])

-- the names take turns
abbrev pub turned : List (List ℕ) → List (List ℕ)
turned [] = []
turned (a ∷ names) = names ++ a ∷ []

-- the next name holds the stage's text, and the other file is next
abbrev pub backed_up : BackupState → StageValue → BackupState
backed_up s stage = record {
  lent = s.lent;
  files = option_map (written (next_name s) (text_of_stage stage)) s.files;
  names = s.names;
  slot = other_slot s.slot;
  interval = s.interval;
  left = s.interval;
}

-- one more norm is closed: the last one of an interval is backed up
abbrev pub after_norm : BackupState → StageValue → BackupState
after_norm s stage = if nat_lt 1 s.left then record s { left = s.left - 1 } else backed_up s stage

-- a refused backup leaves the next name as before, or with a prefix of the stage's text, and all
-- else as before
abbrev pub MayBackUp : BackupState → StageValue → BackupState → Type 0
MayBackUp s stage t = (s.left ≤ 1) × ((t ≡ s) ⊎ ((k : ℕ) × (t ≡ record s {
  files = option_map
      (written (next_name s) (take k (text_of_stage stage))) s.files;
})))

-- ---- many norms
-- the stages at the end of each interval, where so many norms are left to the first
abbrev pub ends_of_intervals : ℕ → ℕ → List StageValue → List StageValue
ends_of_intervals interval left [] = []
ends_of_intervals interval left (stage ∷ stages) =
    if nat_lt 1 left then ends_of_intervals interval (left - 1) stages
    else stage ∷ ends_of_intervals interval interval stages

-- the files after the texts of these stages went to the names in turn
abbrev pub written_in_turn : List (List ℕ) → List StageValue → Files → Files
written_in_turn names [] files = files
written_in_turn names (stage ∷ stages) files =
    written_in_turn (turned names) stages
    (written (slice_index_or names 0 []) (text_of_stage stage) files)

-- the files after closed norms hold the backups of the last norm of each interval, which went to
-- the names in turn
abbrev pub GoInTurn : Type 0
GoInTurn =
    (s : BackupState) (closed : List StageValue)
    → (fold after_norm s closed).files ≡ option_map (written_in_turn (names_in_turn s)
    (ends_of_intervals s.interval s.left closed)) s.files
