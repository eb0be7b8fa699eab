use Rattle.stand_tool.proofs.EndsOfRuns.{never_fails}
use Rattle.stand_tool.proofs.running.stopped.Goals as goal

pub returns-in-Err-clause-sure : goal.returns-in-Err-clause-sure
returns-in-Err-clause-sure c = never_fails c.in-Err.end c.run_end.result c.run_end.ensures
