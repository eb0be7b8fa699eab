-- The end of a run where a stage was not lifted, or was not kept.
use Rattle.outside.specs.declared.ends.PutEnd.{PutEnd}
use Rattle.outside.specs.declared.ends.PutEnd.TheVariants as put
use Rattle.stage_store.specs.declared.stage.LiftEnd.{LiftEnd}
use Rattle.stage_store.specs.declared.stage.LiftEnd.TheVariants.{Overflow, Memory}
use Rattle.lift_run.specs.declared.ends.Place.TheVariants.{Row}
use Rattle.lift_run.specs.declared.ends.RunEnd.{RunEnd}
use Rattle.lift_run.specs.declared.ends.RunEnd.TheVariants as run

abbrev pub run_end : LiftEnd → RunEnd
run_end (Overflow stage row) = run.Overflow stage (Row row)
run_end Memory = run.Memory

abbrev pub run_end_kept : PutEnd → RunEnd
run_end_kept put.Failed = run.Failed
run_end_kept put.Memory = run.Memory
