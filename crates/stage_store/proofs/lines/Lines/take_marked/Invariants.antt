use Rattle.stage_store.specs.Lines.{AreMarked}
use Rattle.stage_store.proofs.lines.Lines.take_marked.Given as goal

abbrev pub invariant-loop-k : goal.invariant-loop-k
invariant-loop-k l = AreMarked l.self l.q l.places.items
