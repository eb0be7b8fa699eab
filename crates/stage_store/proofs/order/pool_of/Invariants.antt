use Rattle.std.proofs.Common.{◌≡◌, ◌≤◌, ◌+◌, take, length}
use Rattle.lift_core.specs.Inside.OrderedRows.{rows_behind}
use Rattle.stage_store.proofs.order.pool_of.Given as goal

abbrev pub invariant-loop-row : goal.invariant-loop-row
invariant-loop-row l = record {
  width : l.pool.width ≡ l.width;
  spare : length l.rows ≤ l.pool.spare + l.row-index;
  rows : l.pool.rows ≡ rows_behind (take l.row-index l.rows);
}
