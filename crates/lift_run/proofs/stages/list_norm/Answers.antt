-- The grown list is that of the norm, or it is longer than the limit.
use Rattle.std.proofs.Common.{arith}
use Rattle.lift_run.specs.Runs.{bounds}
use Rattle.lift_run.proofs.Walking.{closing, over_rows}
use Rattle.lift_run.proofs.stages.list_norm.Goals as goal

pub returns-in-Ok-clause-lists : goal.returns-in-Ok-clause-lists
returns-in-Ok-clause-lists g c =
    let p = closing (bounds c.args.limits) c.args.stage.now c.publish.new.self c.args.norm c.in_ok-closed.closed.norm c.requires.allowed c.in_ok-closed.ensures.norm_is c.in-Ok.ensures.end.0 (omega (arith, c.in-Ok.ensures.end.1)) in
    (p.0, p.1, c.in-Ok.ensures.defined)

pub returns-in-Err-Rows-clause-lists : goal.returns-in-Err-Rows-clause-lists
returns-in-Err-Rows-clause-lists g c =
    over_rows (bounds c.args.limits) c.args.stage.now c.publish.new.self _ c.args.norm c.in_ok-closed.closed.norm _ c.in-Err-Rows.count c.in-Err-Rows.field-0 c.in-Err-Rows.field-0-is c.in-Err-Rows.ensures.end (omega arith) (omega arith) c.in_ok-closed.ensures.norm_is c.requires.allowed
