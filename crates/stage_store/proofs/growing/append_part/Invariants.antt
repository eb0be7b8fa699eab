use Rattle.std.proofs.Common.{◌≡◌, ◌+◌, ◌++◌, take, drop}
use Rattle.stage_store.proofs.growing.append_part.Given as goal

abbrev pub invariant-loop-i : goal.invariant-loop-i
invariant-loop-i l = record {
  width : l.listed.width ≡ l.fn.listed.width;
  rows : l.listed.rows ≡ l.fn.listed.rows ++ drop l.from (take l.i l.rows.rows);
  spare : l.listed.spare + l.i ≡ l.fn.listed.spare + l.from;
}
