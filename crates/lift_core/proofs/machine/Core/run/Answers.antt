-- The state after the first i events is reached by them one after another; where one is refused, its place is where the
-- run stops.
use Rattle.lift_core.specs.PureMachine.{no_event}
use Rattle.lift_core.specs.declared.machine.Event.TheVariants.{Draw}
use Rattle.lift_core.proofs.PureMachine.{runs_more, stops_at}
use Rattle.lift_core.proofs.machine.Core.run.Goals as goal

pub loop-i-init : goal.loop-i-init
loop-i-init c = no_event

pub returns-in-Err : goal.returns-in-Err
returns-in-Err c = stops_at c.args.self.now c.loop-i.self c.step.new.self c.args.events.now c.loop-i.i (Draw 0) c.in-Err.end c.loop-i-test.true c.loop-i.invariant c.in-Err.ensures

pub loop-i-preserved : goal.loop-i-preserved
loop-i-preserved c = runs_more c.args.self.now c.loop-i.self c.step.new.self c.args.events.now c.loop-i.i (Draw 0) c.loop-i-test.true c.loop-i.invariant c.in-Ok.ensures
