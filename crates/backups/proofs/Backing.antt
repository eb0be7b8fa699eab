-- The backups of many norms, one norm after another.
use Rattle.std.proofs.Common.{◌≡◌, ℕ, List, [], ◌∷◌, ◌-◌, Bool, true, false, cond, refl, sym, ap, ◌∙◌}
use Rattle.std.specs.Prelude.{nat_lt, Option, Some, None, slice_index_or}
use Rattle.std.specs.Option.{option_map}
use Rattle.std.specs.List.{fold}
use Rattle.outside.specs.Files.{Files, written}
use Rattle.stage_store.specs.Stage.{StageValue}
use Rattle.restart_file.specs.Texts.{text_of_stage}
use Rattle.backups.specs.declared.keeper.BackupState.{BackupState}
use Rattle.backups.specs.declared.starts.Slot.{Slot}
use Rattle.backups.specs.declared.starts.Slot.TheVariants.{First, Second}
use Rattle.backups.specs.Starts.{other_slot, names_from}
use Rattle.backups.specs.Backups.{after_norm, backed_up, ends_of_intervals, turned, names_in_turn, next_name, written_in_turn}
use Rattle.backups.specs.Standing.{names_after}

-- with the test's answer
one_more : (b : Bool) (s : BackupState) (stage : StageValue) → nat_lt 1 s.left ≡ b
    → after_norm s stage ≡ cond b (record s { left = s.left - 1 }) (backed_up s stage)
one_more b s stage e = ap (λ t. cond t (record s { left = s.left - 1 }) (backed_up s stage)) e

ends_one_more : (b : Bool) (n left : ℕ) (stage : StageValue) (stages : List StageValue)
    → nat_lt 1 left ≡ b → ends_of_intervals n left (stage ∷ stages) ≡ cond b (ends_of_intervals n
    (left - 1) stages) (stage ∷ ends_of_intervals n n stages)
ends_one_more b n left stage stages e = ap (λ t. cond t (ends_of_intervals n (left - 1) stages)
    (stage ∷ ends_of_intervals n n stages)) e

-- nothing is written
none_written : (names : List (List ℕ)) (held : Option Files)
    → held ≡ option_map (written_in_turn names []) held
none_written names None = refl
none_written names (Some files) = refl

-- one text, and then the others
one_written : (names : List (List ℕ)) (name : List ℕ) (stage : StageValue) (stages : List
    StageValue) (held : Option Files)
    → option_map (written_in_turn (turned names) stages) (option_map (written name (text_of_stage
    stage)) held) ≡ option_map (λ files. written_in_turn (turned names) stages (written name
    (text_of_stage stage) files)) held
one_written names name stage stages None = refl
one_written names name stage stages (Some files) = refl

-- the slot turns where the names do
names_turn : (slot : Slot) (first second : List ℕ)
    → names_from (other_slot slot) first second ≡ turned (names_from slot first second)
names_turn First first second = refl
names_turn Second first second = refl

one_turned : (s : BackupState) (stage : StageValue)
    → names_in_turn (backed_up s stage) ≡ turned (names_in_turn s)
one_turned s stage = names_turn s.slot (slice_index_or s.names 0 []) (slice_index_or s.names 1 [])

pub go_in_turn : (s : BackupState) (closed : List StageValue)
    → (fold after_norm s closed).files ≡ option_map (written_in_turn (names_in_turn s)
    (ends_of_intervals s.interval s.left closed)) s.files
go_in_turn s [] = none_written (names_in_turn s) s.files
go_in_turn s (stage ∷ stages) =
    elim (nat_lt 1 s.left) as (λ b. nat_lt 1 s.left ≡ b
    → (fold after_norm s (stage ∷ stages)).files ≡ option_map (written_in_turn (names_in_turn s)
    (ends_of_intervals s.interval s.left (stage ∷ stages))) s.files) [
      | true ↦ λ e.
          ap (λ t. (fold after_norm t stages).files) (one_more true s stage e) ∙ go_in_turn (record
          s { left = s.left - 1 }) stages
          ∙ ap (λ l. option_map (written_in_turn (names_in_turn s) l) s.files) (sym (ends_one_more
          true s.interval s.left stage stages e))
      | false ↦ λ e.
          ap (λ t. (fold after_norm t stages).files) (one_more false s stage e) ∙ go_in_turn
          (backed_up s stage) stages
          ∙ ap (λ names. option_map (written_in_turn names (ends_of_intervals s.interval s.interval
          stages)) (backed_up s stage).files) (one_turned s stage)
          ∙ one_written (names_in_turn s) (next_name s) stage (ends_of_intervals s.interval
          s.interval stages) s.files
          ∙ ap (λ l. option_map (written_in_turn (names_in_turn s) l) s.files) (sym (ends_one_more
          false s.interval s.left stage stages e))
    ] refl

-- the names in turn after closed norms
pub names_go : (s : BackupState) (closed : List StageValue)
    → names_in_turn (fold after_norm s closed) ≡ names_after (names_in_turn s) (ends_of_intervals
    s.interval s.left closed)
names_go s [] = refl
names_go s (stage ∷ stages) =
    elim (nat_lt 1 s.left) as (λ b. nat_lt 1 s.left ≡ b
    → names_in_turn (fold after_norm s (stage ∷ stages)) ≡ names_after (names_in_turn s)
    (ends_of_intervals s.interval s.left (stage ∷ stages))) [
      | true ↦ λ e.
          ap (λ t. names_in_turn (fold after_norm t stages)) (one_more true s stage e) ∙ names_go
          (record s { left = s.left - 1 }) stages
          ∙ ap (λ l. names_after (names_in_turn s) l) (sym (ends_one_more true s.interval s.left
          stage stages e))
      | false ↦ λ e.
          ap (λ t. names_in_turn (fold after_norm t stages)) (one_more false s stage e) ∙ names_go
          (backed_up s stage) stages
          ∙ ap (λ names. names_after names (ends_of_intervals s.interval s.interval stages))
          (one_turned s stage)
          ∙ ap (λ l. names_after (names_in_turn s) l) (sym (ends_one_more false s.interval s.left
          stage stages e))
    ] refl

-- the folder that is lent stays the same
same_loan : (b : Bool) (s : BackupState) (stage : StageValue) → nat_lt 1 s.left ≡ b
    → (after_norm s stage).lent ≡ s.lent
same_loan true s stage e = ap (λ (t : BackupState). t.lent) (one_more true s stage e)
same_loan false s stage e = ap (λ (t : BackupState). t.lent) (one_more false s stage e)

pub loan_stays : (s : BackupState) (closed : List StageValue) → (fold after_norm s closed).lent ≡ s.lent
loan_stays s [] = refl
loan_stays s (stage ∷ stages) = loan_stays (after_norm s stage) stages ∙ same_loan (nat_lt 1 s.left)
    s stage refl

-- and so do both names
same_names : (b : Bool) (s : BackupState) (stage : StageValue) → nat_lt 1 s.left ≡ b
    → (after_norm s stage).names ≡ s.names
same_names true s stage e = ap (λ (t : BackupState). t.names) (one_more true s stage e)
same_names false s stage e = ap (λ (t : BackupState). t.names) (one_more false s stage e)

pub names_stay : (s : BackupState) (closed : List StageValue) → (fold after_norm s closed).names ≡ s.names
names_stay s [] = refl
names_stay s (stage ∷ stages) = names_stay (after_norm s stage) stages ∙ same_names (nat_lt 1
    s.left) s stage refl
