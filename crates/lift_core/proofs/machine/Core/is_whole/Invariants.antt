use Rattle.lift_core.specs.PureMachine.{HasAllBlocks}
use Rattle.lift_core.proofs.machine.Core.is_whole.Given as goal

-- each number so far is in the book
abbrev pub invariant-loop-number : goal.invariant-loop-number
invariant-loop-number l = HasAllBlocks l.self.book l.number
