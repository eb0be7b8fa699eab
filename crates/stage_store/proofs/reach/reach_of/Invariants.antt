-- The least number that was tried with success is a reach of the row, or none was found; the bounds of the halving stay
-- in range.
use Rattle.std.proofs.Common.{◌≡◌, ◌≤◌, length}
use Rattle.stage_store.specs.Reaches.{IsReachOr}
use Rattle.stage_store.proofs.reach.reach_of.Given as goal

abbrev pub invariant-loop : goal.invariant-loop
invariant-loop l = record {
  probe : length l.probe ≡ length l.fn.probe;
  most : l.reach ≤ 9223372036854775807;
  low : l.low ≤ 9223372036854775807;
  next : l.next ≤ 9223372036854775807;
  reach : IsReachOr l.listed.rows l.row l.reach;
}
