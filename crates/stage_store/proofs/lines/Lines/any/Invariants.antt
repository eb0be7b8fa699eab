use Rattle.stage_store.proofs.LineBits.{IsAnyTo}
use Rattle.stage_store.proofs.lines.Lines.any.Given as goal

abbrev pub invariant-loop-k : goal.invariant-loop-k
invariant-loop-k l = IsAnyTo l.k l.self l.places l.bits
