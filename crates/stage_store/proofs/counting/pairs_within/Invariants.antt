use Rattle.stage_store.proofs.CountedPairs.{IsCountedFrom}
use Rattle.stage_store.proofs.counting.pairs_within.Given as goal

abbrev pub invariant-loop-i : goal.invariant-loop-i
invariant-loop-i l = IsCountedFrom l.listed.rows l.norm l.i l.reach.end l.reach.seconds l.pairs
