use Rattle.std.proofs.Common.{◌≡◌, ◌++◌, take}
use Rattle.lift_core.specs.Inside.OrderedRows.{rows_behind}
use Rattle.stage_store.specs.Sorting.{AreFit}
use Rattle.stage_store.proofs.order.take_rows.Given as goal

abbrev pub invariant-loop-i : goal.invariant-loop-i
invariant-loop-i l = record {
  rows : rows_behind l.rows.items ≡ rows_behind l.fn.rows.items ++ take l.i l.pool.rows;
  fit : AreFit l.pool.width (rows_behind l.rows.items);
}
