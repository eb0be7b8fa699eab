-- What a run answers, in the terms of the walk of given lists and of the end of a place.
use Rattle.std.specs.Prelude.{◌≡◌, length, Option, Some, None, Result, Ok, Err, IfSome}
use Rattle.lift_core.specs.Systems.{ToolSystem}
use Rattle.lift_core.specs.ToolSystems.{width}
use Rattle.lift_core.specs.Ends.{End, norm_overflow, row_overflow, pairs_spent, rows_spent, finished, EndsIn, IsSolutionList, Limits as Bounds}
use Rattle.lift_core.specs.Walks.{WalkEnds}
use Rattle.stage_store.specs.Stage.{StageValue, used_of}
use Rattle.stage_store.specs.declared.stage.Finish.{Finish}
use Rattle.stage_store.specs.declared.stage.Lifted.{Lifted}
use Rattle.stage_store.specs.declared.stage.Lifted.TheVariants.{Next, Last}
use Rattle.lift_run.specs.declared.ends.Limits.{Limits}
use Rattle.lift_run.specs.declared.ends.Place.TheVariants.{Row, Norm}
use Rattle.lift_run.specs.declared.ends.RunEnd.{RunEnd}
use Rattle.lift_run.specs.declared.ends.RunEnd.TheVariants.{Overflow, Pairs, Rows, Failed, Memory}

-- the limits as the definitions have them
abbrev pub bounds : Limits → Bounds
bounds l = record { pairs = l.pairs; rows = l.rows }

-- the end that is named; a failed Keep and running out of memory name none
abbrev pub end_of_error : RunEnd → Option End
end_of_error (Overflow k (Row v)) = Some (row_overflow k v)
end_of_error (Overflow k (Norm e)) = Some (norm_overflow k e)
end_of_error (Pairs k e n) = Some (pairs_spent k e n)
end_of_error (Rows k e n) = Some (rows_spent k e n)
end_of_error Failed = None
end_of_error Memory = None

abbrev pub end_of : Result Finish RunEnd → Option End
end_of (Ok f) = Some (finished f.rows.rows f.pairs)
end_of (Err e) = end_of_error e

-- the walk of the stage's lists has this end
abbrev pub StageWalks : Bounds → StageValue → End → Type 0
StageWalks limits s end =
    WalkEnds s.system.equations limits s.number s.norm (used_of s) s.listed s.waiting end

-- the answer is the end of the walk of the stage's lists; what is finished is handed back
abbrev pub AnswersWalk : Bounds → Lifted → Result Finish RunEnd → Type 0
AnswersWalk limits (Next s) answer = IfSome (end_of answer) (StageWalks limits s)
AnswersWalk limits (Last f) answer = answer ≡ Ok f

-- the answer is the end that is reached from the stage's place; what is finished is handed back
abbrev pub AnswersEnd : Bounds → Lifted → Result Finish RunEnd → Type 0
AnswersEnd limits (Next s) answer =
    IfSome (end_of answer) (EndsIn s.system.equations limits s.number s.norm)
AnswersEnd limits (Last f) answer = answer ≡ Ok f

-- the finish is of this system, and its rows are as wide
pub record IsOfSystem (S : ToolSystem) (f : Finish) : Type 0 where
  pub system_is : f.system ≡ S
  pub width_is : f.rows.width ≡ width S.equations

-- the finish is of the stage's system; what is finished is handed back
abbrev pub KeepsSystem : Lifted → Finish → Type 0
KeepsSystem (Next s) f = IsOfSystem s.system f
KeepsSystem (Last g) f = f ≡ g

-- the finish has the minimal solutions of all rows of its system
abbrev pub HasAllSolutions : Finish → Type 0
HasAllSolutions f = IsSolutionList f.system.equations (length f.system.equations.rows) f.rows.rows
