use Rattle.std.proofs.Common.{◌≡◌, length}
use Rattle.std.specs.Prelude.{All}
use Rattle.int_vector.specs.Range.{InRange}
use Rattle.standing_tests.proofs.systems.balance_cells.Given as goal

abbrev pub invariant-loop-column : goal.invariant-loop-column
invariant-loop-column l = record {
  count : length l.cells.items ≡ l.column;
  range : All InRange l.cells.items;
}
