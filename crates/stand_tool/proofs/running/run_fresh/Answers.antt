use Rattle.lift_run.specs.Runs.{bounds}
use Rattle.stand_tool.proofs.FreshRuns.{comes, leaves, system_is, rows_are, sound}
use Rattle.stand_tool.proofs.running.run_fresh.Goals as goal

pub returns-clause-comes : goal.returns-clause-comes
returns-clause-comes g c = comes (bounds c.args.limits) c.args.system c.stopped.result c.run_standing.result c.stopped.ensures.ended c.run_standing.ensures.end

pub returns-clause-system : goal.returns-clause-system
returns-clause-system g c = system_is c.args.system c.stopped.result c.run_standing.result c.stopped.ensures.ended c.run_standing.ensures.system c.run_standing.ensures.width

pub returns-clause-rows : goal.returns-clause-rows
returns-clause-rows g c = rows_are c.args.system c.stopped.result c.run_standing.result c.stopped.ensures.ended c.run_standing.ensures.system c.run_standing.ensures.rows

pub returns-clause-sound : goal.returns-clause-sound
returns-clause-sound g c = sound c.args.system c.stopped.result

pub returns-clause-leaves : goal.returns-clause-leaves
returns-clause-leaves g c = leaves (bounds c.args.limits) c.args.system c.stopped.result c.run_standing.result c.stopped.ensures.ended c.stopped.ensures.next c.run_standing.ensures.walk
