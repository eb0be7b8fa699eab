use Rattle.std.proofs.Common.{take}
use Rattle.stage_store.specs.Tallies.{IsTally}
use Rattle.stage_store.proofs.tally.Tally.restart.Given as goal

abbrev pub invariant-loop-class : goal.invariant-loop-class
invariant-loop-class l = IsTally (take l.class-index l.plus) l.minus l.self
