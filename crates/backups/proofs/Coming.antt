-- What a run from a start comes to, and what it leaves.
use Rattle.std.proofs.Common.{◌≡◌, ◌≤◌, ◌⊎◌, inl, inr, ℕ, List, [], refl, sym, ap, ◌∙◌, subst, arith}
use Rattle.outside.specs.Causes.{Rose}
use Rattle.lift_run.specs.Keeps.{HasKeepCause}
use Rattle.std.specs.Prelude.{Option, Some, None, Result, Ok, Err, IfSome, IfOk, IfErr, slice_index_or}
use Rattle.std.specs.Option.{ok_or}
use Rattle.outside.specs.Files.{Files}
use Rattle.lift_core.specs.Systems.{ToolSystem}
use Rattle.lift_core.specs.Ends.{End, Limits, EndsIn}
use Rattle.stage_store.specs.Stage.{StageValue, IsDefined}
use Rattle.stage_store.specs.Lifted.{IsLiftedDefined}
use Rattle.stage_store.specs.declared.stage.Finish.{Finish}
use Rattle.stage_store.specs.declared.stage.Lifted.{Lifted}
use Rattle.stage_store.specs.declared.stage.Lifted.TheVariants.{Next}
use Rattle.lift_run.specs.declared.ends.RunEnd.{RunEnd}
use Rattle.lift_run.specs.declared.ends.RunEnd.TheVariants.{Failed}
use Rattle.lift_run.specs.Runs.{end_of, end_of_error, AnswersWalk, AnswersEnd, KeepsSystem, IsOfSystem, StageWalks}
use Rattle.lift_run.proofs.Walking.{run_ends, of_first}
use Rattle.backups.specs.declared.running.Stopped.{Stopped}
use Rattle.backups.specs.declared.starts.Slot.{Slot}
use Rattle.backups.specs.declared.starts.Start.{Start}
use Rattle.backups.specs.declared.starts.Start.TheVariants.{Fresh, Resumed}
use Rattle.backups.specs.Starts.{Begins, KeepsStage, IsDefinedStart, StartComesTo, system_of, first_slot, slot_name, names_from}
use Rattle.backups.specs.Standing.{Turns, turns_from, next_backup, LeavesFrom, LeavesRun, ended, came_to, named_end, IsSoundFrom, AreSolutions, HasStoppedCause}
use Rattle.backups.proofs.Soundness.{finished_sound}

both : (named : Option End) (P Q : End → Type 0) (D : Type 0) → IfSome named P → (D
    → IfSome named Q) → IfSome named (λ e. P e × (D → Q e))
both None P Q D p q = tt
both (Some e) P Q D p q = (p, q)

pub comes_from : (limits : Limits) (start : Start) (from : Lifted) (answer : Result Finish RunEnd) →
    Begins start from → AnswersWalk limits from answer
    → (IsLiftedDefined from → AnswersEnd limits from answer) → (IsDefinedStart start
    → IsLiftedDefined from) → IfSome (end_of answer) (StartComesTo limits start)
comes_from limits (Fresh S) from answer b walk end defined = run_ends limits S from answer b (end
    (defined tt))
comes_from limits (Resumed s slot) from answer b walk end defined =
    both (end_of answer) (StageWalks limits s) (EndsIn s.system.equations limits s.number s.norm)
    (IsDefined s)
    (subst (λ (l : Lifted). AnswersWalk limits l answer) b walk)
    (λ d. subst (λ (l : Lifted). AnswersEnd limits l answer) b (end (defined d)))

pub system_from : (start : Start) (from : Lifted) (result : Result Finish Stopped)
    → Begins start from → IfOk result (KeepsSystem from) → IfOk result (IsOfSystem (system_of start))
system_from (Fresh S) from (Ok f) b h = of_first S from f b h
system_from (Resumed s slot) from (Ok f) b h = subst (λ (l : Lifted). KeepsSystem l f) b h
system_from start from (Err e) b h = tt

pub sound_from : (limits : Limits) (start : Start) (result : Result Finish Stopped)
    → KeepsStage start → IfOk result (IsOfSystem (system_of start))
    → IfSome (named_end result) (StartComesTo limits start)
    → IfOk result (IsSoundFrom start)
sound_from limits (Fresh S) (Ok f) kept of comes = tt
sound_from limits (Resumed s slot) (Ok f) kept of comes =
    subst (λ (T : ToolSystem). AreSolutions T.equations f.rows.rows) (sym of.system_is)
    (finished_sound limits s f.rows.rows f.pairs kept comes.0)
sound_from limits start (Err e) kept of comes = tt

pub leaves_from : (turns : Turns) (limits : Limits) (start : Start) (from : Lifted) (came : Result
    End (List ℕ)) (held after : Option Files) → Begins start from
    → IfSome held (λ files. LeavesFrom turns limits from came files after)
    → IfSome held (λ files. LeavesRun turns limits start came files after)
leaves_from turns limits start from came None after b h = tt
leaves_from turns limits start from came (Some files) after b h = inl (from, b, h)

-- the first backup goes to the file of the slot
none_yet : (slot : Slot) (interval : Option ℕ) (first second : List ℕ)
    → slot_name slot first second ≡ next_backup (turns_from slot interval first second) []
none_yet slot None first second = refl
none_yet slot (Some n) first second = refl

-- the run did not begin
pub leaves_before : (limits : Limits) (start : Start) (slot : Slot) (interval : Option ℕ) (first
    second : List ℕ) (held : Option Files) → slot ≡ first_slot start
    → IfSome held (λ files. LeavesRun (turns_from (first_slot start) interval first second) limits
    start (Err (slot_name slot first second)) files held)
leaves_before limits start slot interval first second None is = tt
leaves_before limits start slot interval first second (Some files) is = inr (
  ap (λ (name : List ℕ). Err name) (ap (λ (k : Slot). slot_name k first second) is ∙ none_yet
      (first_slot start) interval first second),
  refl,
)

-- ---- an answer, and the file of the next backup
pub of_ended : (P : Finish → Type 0) (r : Result Finish Stopped) (answer : Result Finish RunEnd)
    → ended r ≡ answer → IfOk answer P → IfOk r P
of_ended P (Ok f) answer e h = subst (λ (x : Result Finish RunEnd). IfOk x P) (sym e) h
of_ended P (Err s) answer e h = tt

-- what it came to, from the answer and the slot
pub came_of : (first second : List ℕ) (r : Result Finish Stopped) (answer : Result Finish RunEnd)
    (next : Slot) → ended r ≡ answer → IfErr r (λ s. s.next ≡ next)
    → came_to first second r ≡ ok_or (end_of answer) (slot_name next first second)
came_of first second (Ok f) answer next e h = ap (λ (x : Result Finish RunEnd). ok_or (end_of x)
    (slot_name next first second)) e
came_of first second (Err s) answer next e h =
    ap (λ (k : Slot). ok_or (end_of_error s.end) (slot_name k first second)) h ∙ ap (λ (x : Result
    Finish RunEnd). ok_or (end_of x) (slot_name next first second)) e

pub alone_leaves : (limits : Limits) (from : Lifted) (r : Result Finish Stopped) (answer : Result
    Finish RunEnd) (slot : Slot) (interval : Option ℕ) (first second : List ℕ) (held : Option Files)
    → interval ≡ None → ended r ≡ answer → IfErr r (λ s. s.next ≡ slot)
    → ((names : List (List ℕ)) (files : Files)
    → LeavesFrom (record { interval = None; names = names }) limits from (ok_or (end_of answer)
    (slice_index_or names 0 [])) files (Some files))
    → IfSome held (λ files. LeavesFrom (turns_from slot interval first second) limits from
    (came_to first second r) files held)
alone_leaves limits from r answer slot interval first second None is e next h = tt
alone_leaves limits from r answer slot interval first second (Some files) is e next h =
    subst (λ (i : Option ℕ). LeavesFrom (turns_from slot i first second) limits from (came_to first
    second r) files (Some files)) (sym is)
    (subst (λ (x : Result End (List ℕ)). LeavesFrom (turns_from slot None first second) limits from
    x files (Some files)) (sym (came_of first second r answer slot e next)) (h (names_from slot
    first second) files))

pub alone_calm : (r : Result Finish Stopped) (answer : Result Finish RunEnd) (A : Type 0)
    → ended r ≡ answer → (answer ≡ Err Failed → ⊥) → (s : Stopped) → r ≡ Err s → s.end ≡ Failed → A
alone_calm r answer A e sure s is failed = absurd (sure (sym e ∙ ap ended is ∙ ap (λ (x : RunEnd).
    Err x) failed))

-- the Keep's count is that of the folder that it was lent
pub stop_cause : (r : Result Finish Stopped) (answer : Result Finish RunEnd) (first last before now
    : ℕ) → ended r ≡ answer → first ≡ before → last ≡ now → HasKeepCause first last answer
    → HasStoppedCause before now r
stop_cause r answer first last before now e f l h = record {
  later = omega (arith, f, l, h.later);
  failed = λ s is failed. subst (λ x. Rose x now) f (subst (λ y. Rose first y) l (h.failed (sym e ∙
      ap ended is ∙ ap (λ (x : RunEnd). Err x) failed)));
}
