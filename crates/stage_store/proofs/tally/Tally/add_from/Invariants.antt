use Rattle.std.proofs.Common.{take}
use Rattle.stage_store.specs.Tallies.{IsInRange, HasGained}
use Rattle.stage_store.proofs.tally.Tally.add_from.Given as goal

abbrev pub invariant-loop-k : goal.invariant-loop-k
invariant-loop-k l = record {
  range : IsInRange l.self;
  gained : HasGained l.fn.self l.self (take l.k l.others) l.class;
}
