use Rattle.std.proofs.Common.{◌≡◌, length, false}
use Rattle.stage_store.specs.Levels.{AreTrueTo, ReachesLine}
use Rattle.stage_store.proofs.marks.fill_reached.Given as goal

abbrev pub invariant-loop-k : goal.invariant-loop-k
invariant-loop-k l = record {
  count : length l.reached ≡ length l.fn.reached;
  reached : AreTrueTo l.k (ReachesLine l.row) false l.reached;
}
