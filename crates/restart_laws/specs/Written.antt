-- A stage that was written is read as the same stage.
use Rattle.std.specs.Prelude.{◌≡◌, ◌≤◌, ◌^◌, ℕ, List, Some, Result, Ok, Err, ⊤}
use Rattle.std.specs.List.{All}
use Rattle.std.specs.FinMap.{get}
use Rattle.outside.specs.Files.{Files, written}
use Rattle.int_vector.specs.Range.{InRange}
use Rattle.stage_store.specs.Stage.{IsStage, StageValue, used_of}
use Rattle.restart_file.specs.declared.ends.RestartEnd.{RestartEnd}
use Rattle.restart_file.specs.declared.ends.RestartEnd.TheVariants.{Bad, Failed, Memory}
use Rattle.restart_file.specs.Texts.{progress_of, text_of_stage}
use Rattle.restart_file.specs.Reading.{IsReading}
use Rattle.restart_file.specs.Stored.{Restores}

-- a stage with a closed norm and at most 2^62 used pairs; the entries of its rows are in range, as
-- `Stage::row` and `Stage::waiting_row` say of each row
pub record IsReadable (s : StageValue) : Type 0 where
  pub stage : IsStage s
  pub closed : 1 ≤ s.norm
  pub used : used_of s ≤ 2 ^ 62
  pub listed_range : All (λ z. All InRange z) s.listed
  pub waiting_range : All (λ z. All InRange z) s.waiting

-- the text of a stage is read as its progress
abbrev pub WrittenIsRead : Type 0
WrittenIsRead =
    (s : StageValue)
    → IsReadable s
    → IsReading s.system (Some (text_of_stage s)) (Ok (progress_of s))

-- the stage itself, or the folder failed, or memory ran out: no other stage, no fault of the file
abbrev pub IsThatStage : StageValue → Result StageValue RestartEnd → Type 0
IsThatStage s (Ok t) = t ≡ s
IsThatStage s (Err (Bad f)) = ⊥
IsThatStage s (Err Failed) = ⊤
IsThatStage s (Err Memory) = ⊤

-- whatever is answered over the file into which the stage was written
abbrev pub NoOtherIsRead : Type 0
NoOtherIsRead =
    (s : StageValue) (name : List ℕ) (files : Files) (answer : Result StageValue RestartEnd)
    → IsReadable s
    → Restores s.system (get (written name (text_of_stage s) files) name) answer
    → IsThatStage s answer
