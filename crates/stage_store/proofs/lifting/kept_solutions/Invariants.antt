use Rattle.std.proofs.Common.{◌≡◌, ◌+◌, ◌≤◌, take, length}
use Rattle.lift_core.specs.Walks.{solutions_in}
use Rattle.stage_store.proofs.lifting.kept_solutions.Given as goal

abbrev pub invariant-loop-i : goal.invariant-loop-i
invariant-loop-i l = record {
  width : l.kept.width ≡ l.width;
  room : length l.listed.rows ≤ l.kept.spare + l.i;
  rows : l.kept.rows ≡ solutions_in (take l.i l.listed.rows);
}
