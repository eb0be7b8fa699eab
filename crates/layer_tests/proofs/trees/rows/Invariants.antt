use Rattle.std.proofs.Common.{◌≡◌, ◌≤◌, ◌+◌, length}
use Rattle.layer_tests.proofs.trees.rows.Given as goal

abbrev pub invariant-loop : goal.invariant-loop
invariant-loop l = record { width : l.pool.width ≡ 4; count : length l.pool.rows ≡ l.counter; room : 1003 ≤ l.counter + l.pool.spare }
