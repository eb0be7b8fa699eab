-- What is written, with the merge of what is left of both lists, is the merge of the whole.
use Rattle.std.proofs.Common.{◌≡◌, ◌+◌, ◌-◌, ◌≤◌, ◌++◌, take, drop, length}
use Rattle.int_vector.specs.Vectors.{lex_cmp}
use Rattle.stage_store.specs.Merge.{merged}
use Rattle.stage_store.proofs.growing.merge_into.Given as goal

abbrev pub invariant-loop-i : goal.invariant-loop-i
invariant-loop-i l = record {
  width : l.listed.width ≡ l.fn.listed.width;
  from : l.from ≤ l.i;
  first : l.i ≤ l.to;
  second : l.j ≤ length l.sums.rows;
  room : (l.to - l.i) + (length l.sums.rows - l.j) ≤ l.listed.spare;
  rows : l.fn.listed.rows ++ merged lex_cmp (drop l.from (take l.to l.waits.rows)) l.sums.rows ≡ l.listed.rows ++ merged lex_cmp (drop l.i (take l.to l.waits.rows)) (drop l.j l.sums.rows);
}

abbrev pub decreases-loop-i : goal.decreases-loop-i
decreases-loop-i l = (l.to - l.i) + (length l.sums.rows - l.j)
