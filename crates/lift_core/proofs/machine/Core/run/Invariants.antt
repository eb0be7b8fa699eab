use Rattle.std.proofs.Common.{take}
use Rattle.lift_core.specs.PureMachine.{Runs}
use Rattle.lift_core.proofs.machine.Core.run.Given as goal

-- the events so far are done
abbrev pub invariant-loop-i : goal.invariant-loop-i
invariant-loop-i l = Runs l.fn.self (take l.i l.events) l.self
