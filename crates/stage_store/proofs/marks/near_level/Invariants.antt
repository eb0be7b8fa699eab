-- A listed row is near at the least level known so far, or none is known, which 8 says.
use Rattle.std.proofs.Common.{◌≡◌, ◌≤◌, length}
use Rattle.stage_store.specs.Levels.{IsNearOr}
use Rattle.stage_store.proofs.marks.near_level.Given as goal

abbrev pub invariant-loop-known : goal.invariant-loop-known
invariant-loop-known l = record {
  probe : length l.probe ≡ length l.fn.probe;
  most : l.known ≤ 8;
  near : IsNearOr l.listed.rows l.row l.column l.positive l.known;
}

abbrev pub decreases-loop-known : goal.decreases-loop-known
decreases-loop-known l = l.known
