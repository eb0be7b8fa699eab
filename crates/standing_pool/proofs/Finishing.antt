-- The answer of a run with a team, from that of the run over the copied system's first stage.
use Rattle.std.proofs.Common.{◌≡◌, length, sym, subst, inl}
use Rattle.std.specs.Prelude.{Result, Ok, Err, IfOk, IfSome}
use Rattle.lift_core.specs.Systems.{ToolSystem}
use Rattle.lift_core.specs.ToolSystems.{width}
use Rattle.lift_core.specs.Ends.{RunEnds, IsSolutionList}
use Rattle.stage_store.specs.Lifted.{IsFirst}
use Rattle.stage_store.specs.declared.stage.Lifted.{Lifted}
use Rattle.stage_store.specs.declared.stage.Finish.{Finish}
use Rattle.lift_run.specs.declared.ends.Limits.{Limits}
use Rattle.lift_run.specs.declared.ends.RunEnd.{RunEnd}
use Rattle.lift_run.specs.Runs.{bounds, end_of, AnswersEnd, KeepsSystem, HasAllSolutions, IsOfSystem}
use Rattle.lift_run.proofs.Walking.{run_ends, of_first}
use Rattle.standing_pool.specs.declared.ends.StandEnd.{StandEnd}
use Rattle.standing_pool.specs.Ends.{as_run, IsComeTo, IsComeToFromStart}

pub of_copy : (copy S : ToolSystem) (from : Lifted) → copy ≡ S → IsFirst copy from → IsFirst S from
of_copy copy S from equal first = subst (λ (T : ToolSystem). IsFirst T from) equal first

pub ends : (own limits : Limits) (S : ToolSystem) (from : Lifted) (answer : Result Finish StandEnd) (plain : Result Finish RunEnd) → own ≡ limits → as_run answer ≡ plain → IsFirst S from
    → AnswersEnd (bounds own) from plain → IfSome (end_of (as_run answer)) (RunEnds S.equations (bounds limits))
ends own limits S from answer plain same is first h =
    subst (λ (r : Result Finish RunEnd). IfSome (end_of r) (RunEnds S.equations (bounds limits))) (sym is)
    (run_ends (bounds limits) S from plain first (subst (λ (l : Limits). AnswersEnd (bounds l) from plain) same h))

pub comes : (own limits : Limits) (S : ToolSystem) (from : Lifted) (answer : Result Finish StandEnd) (plain : Result Finish RunEnd) → own ≡ limits → as_run answer ≡ plain → IsFirst S from
    → IsComeTo (bounds own) from plain → IsComeToFromStart (bounds limits) S (as_run answer)
comes own limits S from answer plain same is first h =
    inl (from, first, subst (λ (l : Limits). IsComeTo (bounds l) from (as_run answer)) same (subst (λ (r : Result Finish RunEnd). IsComeTo (bounds own) from r) (sym is) h))

pub of_system : (S : ToolSystem) (from : Lifted) (answer : Result Finish StandEnd) (plain : Result Finish RunEnd) → as_run answer ≡ plain → IsFirst S from → IfOk plain (KeepsSystem from) → IfOk answer (IsOfSystem S)
of_system S from (Ok f) plain is first h = of_first S from f first (subst (λ (r : Result Finish RunEnd). IfOk r (KeepsSystem from)) (sym is) h)
of_system S from (Err e) plain is first h = tt

pub system_of : (S : ToolSystem) (answer : Result Finish StandEnd) → IfOk answer (IsOfSystem S) → IfOk answer (λ f. f.system ≡ S)
system_of S (Ok f) h = h.system_is
system_of S (Err e) h = tt

pub width_of : (S : ToolSystem) (answer : Result Finish StandEnd) → IfOk answer (IsOfSystem S) → IfOk answer (λ f. f.rows.width ≡ width S.equations)
width_of S (Ok f) h = h.width_is
width_of S (Err e) h = tt

pub rows_of : (S : ToolSystem) (answer : Result Finish StandEnd) (plain : Result Finish RunEnd) → as_run answer ≡ plain → IfOk answer (IsOfSystem S) → IfOk plain HasAllSolutions
    → IfOk answer (λ f. IsSolutionList S.equations (length S.equations.rows) f.rows.rows)
rows_of S (Ok f) plain is of h =
    subst (λ (T : ToolSystem). IsSolutionList T.equations (length T.equations.rows) f.rows.rows) of.system_is (subst (λ (r : Result Finish RunEnd). IfOk r HasAllSolutions) (sym is) h)
rows_of S (Err e) plain is of h = tt
