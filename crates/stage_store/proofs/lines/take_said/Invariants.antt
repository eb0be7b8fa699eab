use Rattle.stage_store.specs.Lines.{AreSaid}
use Rattle.stage_store.proofs.lines.take_said.Given as goal

abbrev pub invariant-loop-k : goal.invariant-loop-k
invariant-loop-k l = AreSaid l.upper l.levels l.places.items
