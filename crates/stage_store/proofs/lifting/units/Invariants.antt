-- The unit vectors with numbers below i that obey signs and caps are in the pool, and the vector in hand is zero again.
use Rattle.std.proofs.Common.{◌≡◌, ◌+◌, ◌*◌, ◌≤◌, length, replicate, pos}
use Rattle.stage_store.specs.UnitVectors.{AreUnitsBefore}
use Rattle.stage_store.proofs.lifting.units.Given as goal

abbrev pub invariant-loop-i : goal.invariant-loop-i
invariant-loop-i l = record {
  width : l.units.width ≡ l.width;
  room : 2 * l.width ≤ l.units.spare + l.i;
  count : length l.units.rows ≤ l.i;
  unit : l.unit.items ≡ replicate l.width (pos 0);
  list : AreUnitsBefore l.system.equations l.i l.units.rows;
}
