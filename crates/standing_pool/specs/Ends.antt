-- How a run with a standing team ends, in the terms of a run.
use Rattle.std.specs.Prelude.{◌≡◌, Some, Result, Ok, Err}
use Rattle.lift_core.specs.Systems.{ToolSystem}
use Rattle.lift_core.specs.Ends.{Limits as Bounds}
use Rattle.stage_store.specs.Stage.{StageValue}
use Rattle.stage_store.specs.declared.stage.Lifted.{Lifted}
use Rattle.stage_store.specs.declared.stage.Finish.{Finish}
use Rattle.lift_run.specs.declared.ends.RunEnd.{RunEnd}
use Rattle.lift_run.specs.declared.ends.RunEnd.TheVariants as run
use Rattle.lift_run.specs.Keeps.{TellsKeep}
use Rattle.lift_run.specs.Places.{TellsFromStart}
use Rattle.standing_pool.specs.declared.ends.StandEnd.{StandEnd}
use Rattle.standing_pool.specs.declared.ends.StandEnd.TheVariants.{Overflow, Pairs, Rows, Memory}

abbrev pub run_end_of : StandEnd → RunEnd
run_end_of (Overflow stage place) = run.Overflow stage place
run_end_of (Pairs stage norm needed) = run.Pairs stage norm needed
run_end_of (Rows stage norm count) = run.Rows stage norm count
run_end_of Memory = run.Memory

abbrev pub as_run : Result Finish StandEnd → Result Finish RunEnd
as_run (Ok f) = Ok f
as_run (Err end) = Err (run_end_of end)

-- nothing is kept of a stage
abbrev pub keeps_nothing : Unit {0} → StageValue → Unit {0}
keeps_nothing x s = x

abbrev pub TearsNothing : Unit {0} → StageValue → Unit {0} → Type 0
TearsNothing x s y = y ≡ x

-- the answer is come to from norm to norm: as a run that keeps nothing tells it
abbrev pub IsComeTo : Bounds → Lifted → Result Finish RunEnd → Type 0
IsComeTo limits first answer =
    TellsKeep keeps_nothing TearsNothing limits first answer (Some tt) (Some tt)

abbrev pub IsComeToFromStart : Bounds → ToolSystem → Result Finish RunEnd → Type 0
IsComeToFromStart limits S answer =
    TellsFromStart keeps_nothing TearsNothing limits S answer (Some tt) (Some tt)
