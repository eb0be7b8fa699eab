-- What the Keep was told is what stands in the folder.
use Rattle.std.proofs.Common.{◌≡◌, ◌⊎◌, inl, inr, ℕ, List, [], ◌∷◌, take, refl, sym, ap, ◌∙◌, subst}
use Rattle.std.specs.Prelude.{Option, Some, None, Result, Ok, Err, IfSome, slice_index_or, unwrap_or}
use Rattle.std.specs.Option.{option_map, ok_or}
use Rattle.std.specs.List.{fold}
use Rattle.outside.specs.Files.{Files, written}
use Rattle.lift_core.specs.Ends.{End, Limits}
use Rattle.stage_store.specs.Stage.{StageValue}
use Rattle.stage_store.specs.declared.stage.Finish.{Finish}
use Rattle.stage_store.specs.declared.stage.Lifted.{Lifted}
use Rattle.stage_store.specs.declared.stage.Lifted.TheVariants.{Next, Last}
use Rattle.restart_file.specs.Texts.{text_of_stage}
use Rattle.lift_run.specs.declared.ends.RunEnd.{RunEnd}
use Rattle.lift_run.specs.Runs.{end_of}
use Rattle.lift_run.specs.Keeps.{TellsTo, TellsKeep}
use Rattle.backups.specs.declared.keeper.BackupState.{BackupState}
use Rattle.backups.specs.declared.starts.Slot.{Slot}
use Rattle.backups.specs.Starts.{slot_name}
use Rattle.backups.specs.Backups.{after_norm, MayBackUp, ends_of_intervals, next_name}
use Rattle.backups.specs.Standing.{Turns, turns_from, backed, next_backup, names_after, MayStandAfter, HasAllBackups, HasFirstBackups, LeavesFrom}
use Rattle.backups.proofs.Backing.{go_in_turn, names_go, loan_stays, names_stay}

-- ---- without backups
abbrev never : List (List ℕ) → Turns
never names = record { interval = None; names = names }

-- the end that is named, or the first name, which stays the next one
abbrev alone_to : List (List ℕ) → Option End → Result End (List ℕ)
alone_to names named = ok_or named (slice_index_or names 0 [])

nothing_written : {X : Type 0} (after : X → StageValue → X) (torn : X → StageValue → X
    → Type 0) (limits : Limits) (s : StageValue) (named : Option End) (old new : Option X) (names :
    List (List ℕ)) (files : Files)
    → TellsTo after torn limits s named old new
    → LeavesFrom (never names) limits (Next s) (alone_to names named) files (Some files)
nothing_written after torn limits s None old new names files h = (h.closed, h.final, h.leads, refl, inl refl)
nothing_written after torn limits s (Some end) old new names files h = record {
  closed = h.closed;
  closes = (h.final, h.leads, h.ends);
  files = refl;
}

nothing_begun : (limits : Limits) (f : Finish) (named : Option End) (names : List (List ℕ)) (files :
    Files) → LeavesFrom (never names) limits (Last f) (alone_to names named) files (Some files)
nothing_begun limits f None names files = (refl, refl)
nothing_begun limits f (Some end) names files = record { closed = []; closes = refl; files = refl }

pub leaves_nothing : {X : Type 0} (after : X → StageValue → X) (torn : X → StageValue → X
    → Type 0) (limits : Limits) (from : Lifted) (answer : Result Finish RunEnd) (old new : Option X)
    (names : List (List ℕ)) (files : Files)
    → TellsKeep after torn limits from answer old new
    → LeavesFrom (never names) limits from (alone_to names (end_of answer)) files (Some files)
leaves_nothing after torn limits (Next s) answer old new names files h = nothing_written after torn
    limits s (end_of answer) old new names files h
leaves_nothing after torn limits (Last f) answer old new names files h = nothing_begun limits f
    (end_of answer) names files

-- ---- with backups
inside : (x y : BackupState) → Some x ≡ Some y → x ≡ y
inside x y e = ap (λ (o : Option BackupState). unwrap_or o x) e

module _ (limits : Limits) (lent n : ℕ) (slot : Slot) (first second : List ℕ) where
  abbrev begun_with : Option Files → BackupState
  begun_with held = record {
    lent = lent;
    files = held;
    names = first ∷ second ∷ [];
    slot = slot;
    interval = n;
    left = n;
  }

  abbrev each : Turns
  each = turns_from slot (Some n) first second

  files_after : (held : Option Files) (closed : List StageValue)
      → (fold after_norm (begun_with held) closed).files ≡ option_map (backed each closed) held
  files_after held closed = go_in_turn (begun_with held) closed

  next_after : (held : Option Files) (closed : List StageValue)
      → next_name (fold after_norm (begun_with held) closed) ≡ next_backup each closed
  next_after held closed = ap (λ (l : List (List ℕ)). slice_index_or l 0 []) (names_go (begun_with
      held) closed)

  -- the slot of a state that follows these stages is that of the next backup's file
  next_is : (held : Option Files) (closed : List StageValue) (now : BackupState)
      → now.slot ≡ (fold after_norm (begun_with held) closed).slot
      → slot_name now.slot first second ≡ next_backup each closed
  next_is held closed now same =
      ap (λ (k : Slot). slot_name k first second) same
      ∙ ap (λ (l : List (List ℕ)). slot_name (fold after_norm (begun_with held) closed).slot
      (slice_index_or l 0 []) (slice_index_or l 1 [])) (sym (names_stay (begun_with held) closed))
      ∙ next_after held closed

  -- the end that is named, or the file of the next backup, as the state has it
  abbrev ends_at : Option End → BackupState → Result End (List ℕ)
  ends_at named now = ok_or named (slot_name now.slot first second)

  -- the state that follows kept stages
  whole : (files : Files) (closed : List StageValue) (now : BackupState)
      → now ≡ fold after_norm (begun_with (Some files)) closed → now.files ≡ Some (backed each closed files)
  whole files closed now e = ap (λ (b : BackupState). b.files) e ∙ files_after (Some files) closed

  -- the state that follows a refused one
  torn_file : (files : Files) (closed : List StageValue) (t : StageValue) (k : ℕ) (now : BackupState)
      → now ≡ record (fold after_norm (begun_with (Some files)) closed) {
        files = option_map
            (written (next_name (fold after_norm (begun_with (Some files)) closed)) (take k
            (text_of_stage t))) (fold after_norm (begun_with (Some files)) closed).files;
      }
      → now.files ≡ Some (written (next_backup each closed) (take k (text_of_stage t)) (backed each
      closed files))
  torn_file files closed t k now e =
      ap (λ (b : BackupState). b.files) e
      ∙ ap (λ (name : List ℕ). option_map (written name (take k (text_of_stage t))) (fold after_norm
      (begun_with (Some files)) closed).files) (next_after (Some files) closed)
      ∙ ap (option_map (written (next_backup each closed) (take k (text_of_stage t)))) (files_after
      (Some files) closed)

  told : (files : Files) (s : StageValue) (named : Option End) (now : BackupState)
      → TellsTo after_norm MayBackUp limits s named (Some (begun_with (Some files))) (Some now)
      → LeavesFrom each limits (Next s) (ends_at named now) files now.files
  told files s None now h = elim h.stands [
    | inl e ↦ (
      h.closed,
      h.final,
      h.leads,
      next_is (Some files) h.closed now (ap (λ (b : BackupState). b.slot) (inside now (fold
          after_norm (begun_with (Some files)) h.closed) e)),
      inl (whole files h.closed now (inside now (fold
          after_norm (begun_with (Some files)) h.closed) e)),
    )
    | inr m ↦ elim m.2.1 [
      | inl same ↦ (
        h.closed,
        h.final,
        h.leads,
        next_is (Some files) h.closed now (ap (λ (b : BackupState). b.slot) same),
        inl (whole files h.closed now same),
      )
      | inr cut ↦ (
        h.closed,
        h.final,
        h.leads,
        next_is (Some files) h.closed now (ap (λ (b : BackupState). b.slot) cut.1),
        inr (
          m.0,
          m.1,
          cut.0,
          torn_file files h.closed m.0
              cut.0 now cut.1,
        ),
      )
    ]
  ]
  told files s (Some end) now h = record {
    closed = h.closed;
    closes = (h.final, h.leads, h.ends);
    files = whole files h.closed now (inside now (fold after_norm (begun_with (Some files)) h.closed) h.told);
  }

  ready : (files : Files) (f : Finish) (named : Option End) (now : BackupState)
      → Some now ≡ Some (begun_with (Some files))
      → LeavesFrom each limits (Last f) (ends_at named now) files now.files
  ready files f None now e = (
    next_is (Some files) [] now (ap (λ (b : BackupState). b.slot) (inside now (begun_with (Some files)) e)),
    ap (λ (b : BackupState). b.files) (inside now (begun_with (Some files)) e),
  )
  ready files f (Some end) now e = record {
    closed = [];
    closes = refl;
    files = ap (λ (b :
        BackupState). b.files) (inside now (begun_with (Some files)) e);
  }

  pub leaves_backups : (held : Option Files) (from : Lifted) (answer : Result Finish RunEnd) (now :
      BackupState) → TellsKeep after_norm MayBackUp limits from answer (Some (begun_with held)) (Some now)
      → IfSome held (λ files. LeavesFrom each limits from (ends_at (end_of answer) now) files now.files)
  leaves_backups None from answer now h = tt
  leaves_backups (Some files) (Next s) answer now h = told files s (end_of answer) now h
  leaves_backups (Some files) (Last f) answer now h = ready files f (end_of answer) now h

  -- ---- the folder that is lent
  loan_told : (held : Option Files) (s : StageValue) (named : Option End) (now : BackupState)
      → TellsTo after_norm MayBackUp limits s named (Some (begun_with held)) (Some now) → now.lent ≡ lent
  loan_told held s None now h = elim h.stands [
    | inl e ↦ ap (λ (b : BackupState). b.lent) (inside now (fold after_norm (begun_with held)
        h.closed) e) ∙ loan_stays (begun_with held) h.closed
    | inr m ↦ elim m.2.1 [
      | inl same ↦ ap (λ (b : BackupState). b.lent) same ∙ loan_stays (begun_with held) h.closed
      | inr cut ↦ ap (λ (b : BackupState). b.lent) cut.1 ∙ loan_stays (begun_with held) h.closed
    ]
  ]
  loan_told held s (Some end) now h = ap (λ (b : BackupState). b.lent) (inside now (fold after_norm
      (begun_with held) h.closed) h.told) ∙ loan_stays (begun_with held) h.closed

  pub same_folder : (held : Option Files) (from : Lifted) (answer : Result Finish RunEnd) (now :
      BackupState) → TellsKeep after_norm MayBackUp limits from answer (Some (begun_with held))
      (Some now) → now.lent ≡ lent
  same_folder held (Next s) answer now h = loan_told held s (end_of answer) now h
  same_folder held (Last f) answer now h = ap (λ (b : BackupState). b.lent) (inside now (begun_with held) h)

-- ---- from any state that begins so
module _ (limits : Limits) (from : Lifted) (answer : Result Finish RunEnd) (old now : BackupState)
    (held : Option Files) (n : ℕ) (slot : Slot) (first second : List ℕ)
    (f : old.files ≡ held) (m : old.names ≡ first ∷ second ∷ []) (k : old.slot ≡ slot)
    (i : old.interval ≡ n) (l : old.left ≡ n)
    (told_all : TellsKeep after_norm MayBackUp limits from answer (Some old) (Some now)) where
  as_begun : old ≡ begun_with limits old.lent n slot first second held
  as_begun = λ j. record {
    lent = old.lent;
    files = f j;
    names = m j;
    slot = k j;
    interval = i j;
    left = l j;
  }

  told_begun : TellsKeep after_norm MayBackUp limits from answer (Some (begun_with limits old.lent n
      slot first second held)) (Some now)
  told_begun = subst (λ (b : BackupState). TellsKeep after_norm MayBackUp limits from answer (Some
      b) (Some now)) as_begun told_all

  pub leaves_all : IfSome held (λ files. LeavesFrom (turns_from slot (Some n) first second) limits from
      (ok_or (end_of answer) (slot_name now.slot first second)) files now.files)
  leaves_all = leaves_backups limits old.lent n slot first second held from answer now told_begun

  pub same_loan_all : now.lent ≡ old.lent
  same_loan_all = same_folder limits old.lent n slot first second held from answer now told_begun
