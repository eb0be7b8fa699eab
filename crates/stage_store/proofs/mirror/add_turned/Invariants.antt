use Rattle.stage_store.proofs.Negatives.{AddsTurnedTo}
use Rattle.stage_store.proofs.mirror.add_turned.Given as goal

abbrev pub invariant-loop-k : goal.invariant-loop-k
invariant-loop-k l = AddsTurnedTo l.k l.from l.to l.fn.mirror.items l.mirror.items
