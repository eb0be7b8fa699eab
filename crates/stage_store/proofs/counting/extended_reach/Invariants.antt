use Rattle.stage_store.specs.CountedPairs.{IsWithinReach}
use Rattle.stage_store.proofs.counting.extended_reach.Given as goal

abbrev pub invariant-loop-end : goal.invariant-loop-end
invariant-loop-end l = IsWithinReach l.listed.rows l.first l.norm l.end l.seconds
