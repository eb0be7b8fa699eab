use Rattle.std.proofs.Common.{◌≡◌, ◌≤◌, length, All, vec_capacity}
use Rattle.int_vector.specs.Range.{InRange}
use Rattle.run_tests.proofs.visits.sums_of_tables.Given as goal

abbrev pub invariant-loop-i : goal.invariant-loop-i
invariant-loop-i l = record {
  count : length l.cells.items ≡ l.i;
  room : 162 ≤ vec_capacity l.cells;
  range : All InRange l.cells.items;
}
