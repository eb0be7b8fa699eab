-- A run with a team, as a fresh run without backups.
use Rattle.std.proofs.Common.{◌≡◌, ℕ, List, length, inl, inr, refl, ap, sym, subst, ◌∙◌, Option, None, Some, Result, Ok, Err, IfOk, IfSome}
use Rattle.std.specs.Prelude.{IfErr}
use Rattle.std.specs.Option.{ok_or}
use Rattle.outside.specs.Files.{Files}
use Rattle.lift_core.specs.Systems.{ToolSystem}
use Rattle.lift_core.specs.ToolSystems.{width}
use Rattle.lift_core.specs.Ends.{RunEnds, IsSolutionList, End, Limits as Bounds}
use Rattle.stage_store.specs.declared.stage.Finish.{Finish}
use Rattle.lift_run.specs.declared.ends.RunEnd.{RunEnd}
use Rattle.lift_run.specs.Runs.{end_of, IsOfSystem, HasAllSolutions}
use Rattle.standing_pool.specs.declared.ends.StandEnd.{StandEnd}
use Rattle.standing_pool.specs.Ends.{as_run, keeps_nothing, TearsNothing, IsComeToFromStart}
use Rattle.backups.specs.declared.running.Stopped.{Stopped}
use Rattle.backups.specs.declared.starts.Slot.TheVariants.{First}
use Rattle.backups.specs.declared.starts.Start.TheVariants.{Fresh}
use Rattle.backups.specs.Starts.{StartComesTo, names_from}
use Rattle.backups.specs.Standing.{ended, named_end, came_to, turns_from, LeavesFrom, LeavesRun, IsSoundFrom}
use Rattle.backups.proofs.Coming.{came_of}
use Rattle.backups.proofs.Leaving.{leaves_nothing}

pub comes : (limits : Bounds) (S : ToolSystem) (r : Result Finish Stopped) (answer : Result Finish StandEnd) → ended r ≡ as_run answer
    → IfSome (end_of (as_run answer)) (RunEnds S.equations limits) → IfSome (named_end r) (StartComesTo limits (Fresh S))
comes limits S r answer is h = subst (λ (a : Result Finish RunEnd). IfSome (end_of a) (RunEnds S.equations limits)) (sym is) h

pub leaves : (limits : Bounds) (S : ToolSystem) (r : Result Finish Stopped) (answer : Result Finish StandEnd) → ended r ≡ as_run answer → IfErr r (λ s. s.next ≡ First)
    → IsComeToFromStart limits S (as_run answer) → (first second : List ℕ) (files : Files)
    → LeavesRun (turns_from First None first second) limits (Fresh S) (came_to first second r) files (Some files)
leaves limits S r answer is next (inl w) first second files =
    inl (
      w.0,
      w.1,
      subst (λ (x : Result End (List ℕ)). LeavesFrom (turns_from First None first second) limits w.0 x files (Some files))
          (sym (came_of first second r (as_run answer) First is next))
          (leaves_nothing keeps_nothing TearsNothing limits w.0 (as_run answer) (Some tt) (Some tt) (names_from First first second) files w.2),
    )
leaves limits S r answer is next (inr n) first second files =
    inr (came_of first second r (as_run answer) First is next ∙ ap (λ (o : Option End). ok_or o first) n.0, refl)

of_system : (S : ToolSystem) (answer : Result Finish StandEnd) → IfOk answer (λ f. f.system ≡ S) → IfOk answer (λ f. f.rows.width ≡ width S.equations) → IfOk (as_run answer) (IsOfSystem S)
of_system S (Ok f) a b = record { system_is = a; width_is = b }
of_system S (Err e) a b = tt

has_all : (S : ToolSystem) (answer : Result Finish StandEnd) → IfOk answer (λ f. f.system ≡ S) → IfOk answer (λ f. IsSolutionList S.equations (length S.equations.rows) f.rows.rows)
    → IfOk (as_run answer) HasAllSolutions
has_all S (Ok f) a b = subst (λ (T : ToolSystem). IsSolutionList T.equations (length T.equations.rows) f.rows.rows) (sym a) b
has_all S (Err e) a b = tt

carried : (P : Finish → Type 0) (r : Result Finish Stopped) (answer : Result Finish RunEnd) → ended r ≡ answer → IfOk answer P → IfOk r P
carried P (Ok f) answer is h = subst (λ (x : Result Finish RunEnd). IfOk x P) (sym is) h
carried P (Err s) answer is h = tt

pub system_is : (S : ToolSystem) (r : Result Finish Stopped) (answer : Result Finish StandEnd) → ended r ≡ as_run answer → IfOk answer (λ f. f.system ≡ S)
    → IfOk answer (λ f. f.rows.width ≡ width S.equations) → IfOk r (IsOfSystem S)
system_is S r answer is a b = carried (IsOfSystem S) r (as_run answer) is (of_system S answer a b)

pub rows_are : (S : ToolSystem) (r : Result Finish Stopped) (answer : Result Finish StandEnd) → ended r ≡ as_run answer → IfOk answer (λ f. f.system ≡ S)
    → IfOk answer (λ f. IsSolutionList S.equations (length S.equations.rows) f.rows.rows) → IfOk r HasAllSolutions
rows_are S r answer is a b = carried HasAllSolutions r (as_run answer) is (has_all S answer a b)

pub sound : (S : ToolSystem) (r : Result Finish Stopped) → IfOk r (IsSoundFrom (Fresh S))
sound S (Ok f) = tt
sound S (Err s) = tt
