-- A step of a merge of two ascending lists: the lesser row is written, an equal one once, and when one list ends the
-- rest of the other follows.
use Rattle.std.proofs.Common.{◌++◌, ◌<◌, ◌∙◌, arith, length, take, drop}
use Rattle.int_vector.specs.Vectors.{lex_cmp}
use Rattle.stage_store.specs.Merge.{merged}
use Rattle.stage_store.proofs.Merging.{merge_less, merge_equal, merge_greater, merge_first_done, merge_second_done}
use Rattle.stage_store.proofs.growing.merge_into.Goals as goal
use Rattle.stage_store.proofs.growing.merge_into.Goals.{then-loop-i-test+else-j-len, else-loop-i-test}

pub loop-i-preserved-in-Less : goal.loop-i-preserved-in-Less
loop-i-preserved-in-Less c =
    let j : c.loop-i.j < length c.args.sums.now.rows = omega (arith, c.len.ensures, c.if-j-len.true) in
    record {
      width = c.push.ensures.width ∙ c.loop-i.invariant.width;
      from = omega (arith, c.loop-i.invariant.from);
      first = omega (arith, c.loop-i-test.true);
      second = c.loop-i.invariant.second;
      room = omega (arith, c.loop-i.invariant.room, c.push.ensures.spare, c.loop-i-test.true, j);
      rows = merge_less (c.args.listed.now.rows ++ merged lex_cmp (drop c.args.from (take c.args.to c.args.waits.now.rows)) c.args.sums.now.rows) c.loop-i.listed.rows c.push.new.self.rows c.args.waits.now.rows c.args.sums.now.rows c.args.to c.loop-i.i c.loop-i.j c.row.result.now c.row-in-loop-i.result.now c.row-in-Less.result.now c.lex.result
          c.requires.to c.loop-i-test.true j c.row.ensures.row c.row-in-loop-i.ensures.row c.lex.ensures c.push.ensures.rows c.loop-i.invariant.rows c.requires.sums c.in-Less.is c.row-in-Less.ensures.row;
    }

pub loop-i-preserved-in-Equal : goal.loop-i-preserved-in-Equal
loop-i-preserved-in-Equal c =
    let j : c.loop-i.j < length c.args.sums.now.rows = omega (arith, c.len.ensures, c.if-j-len.true) in
    record {
      width = c.push-in-Equal.ensures.width ∙ c.loop-i.invariant.width;
      from = omega (arith, c.loop-i.invariant.from);
      first = omega (arith, c.loop-i-test.true);
      second = omega (arith, j);
      room = omega (arith, c.loop-i.invariant.room, c.push-in-Equal.ensures.spare, c.loop-i-test.true, j);
      rows = merge_equal (c.args.listed.now.rows ++ merged lex_cmp (drop c.args.from (take c.args.to c.args.waits.now.rows)) c.args.sums.now.rows) c.loop-i.listed.rows c.push-in-Equal.new.self.rows c.args.waits.now.rows c.args.sums.now.rows c.args.to c.loop-i.i c.loop-i.j c.row.result.now c.row-in-loop-i.result.now c.row-in-Equal.result.now c.lex.result
          c.requires.to c.loop-i-test.true j c.row.ensures.row c.row-in-loop-i.ensures.row c.lex.ensures c.push-in-Equal.ensures.rows c.loop-i.invariant.rows c.requires.sums c.in-Equal.is c.row-in-Equal.ensures.row;
    }

pub loop-i-preserved : goal.loop-i-preserved
loop-i-preserved c =
    let j : c.loop-i.j < length c.args.sums.now.rows = omega (arith, c.len.ensures, c.if-j-len.true) in
    record {
      width = c.push-in-Greater.ensures.width ∙ c.loop-i.invariant.width;
      from = omega (arith, c.loop-i.invariant.from);
      first = c.loop-i.invariant.first;
      second = omega (arith, j);
      room = omega (arith, c.loop-i.invariant.room, c.push-in-Greater.ensures.spare, c.loop-i-test.true, j);
      rows = merge_greater (c.args.listed.now.rows ++ merged lex_cmp (drop c.args.from (take c.args.to c.args.waits.now.rows)) c.args.sums.now.rows) c.loop-i.listed.rows c.push-in-Greater.new.self.rows c.args.waits.now.rows c.args.sums.now.rows c.args.to c.loop-i.i c.loop-i.j c.row.result.now c.row-in-loop-i.result.now c.row-in-Greater.result.now c.lex.result
          c.requires.to c.loop-i-test.true j c.row.ensures.row c.row-in-loop-i.ensures.row c.lex.ensures c.push-in-Greater.ensures.rows c.loop-i.invariant.rows c.in-Greater.is c.row-in-Greater.ensures.row;
    }

pub returns-clause-rows : goal.returns-clause-rows
returns-clause-rows c = elim c.loop-i-test.branch [
  | then-loop-i-test+else-j-len w ↦ merge_second_done (c.args.listed.now.rows ++ merged lex_cmp (drop c.args.from (take c.args.to c.args.waits.now.rows)) c.args.sums.now.rows) c.loop-i.listed.rows c.append_part.new.listed.rows c.append_part-2.new.listed.rows c.args.waits.now.rows c.args.sums.now.rows c.args.to c.loop-i.i c.loop-i.j c.len-2.result (omega (arith, w.len.ensures, w.if-j-len.false)) c.len-2.ensures c.loop-i.invariant.rows c.append_part.ensures.rows c.append_part-2.ensures.rows
  | else-loop-i-test w ↦ merge_first_done (c.args.listed.now.rows ++ merged lex_cmp (drop c.args.from (take c.args.to c.args.waits.now.rows)) c.args.sums.now.rows) c.loop-i.listed.rows c.append_part.new.listed.rows c.append_part-2.new.listed.rows c.args.waits.now.rows c.args.sums.now.rows c.args.to c.loop-i.i c.loop-i.j c.len-2.result c.requires.to w.loop-i-test.false c.len-2.ensures c.loop-i.invariant.rows c.append_part.ensures.rows c.append_part-2.ensures.rows
]
