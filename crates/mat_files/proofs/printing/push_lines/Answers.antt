-- The lines so far and those of the rows that are left make the whole.
use Rattle.std.proofs.Common.{◌≡◌, ◌+◌, ◌++◌, length, take, drop, ◌∙◌, arith}
use Rattle.mat_files.specs.Texts.{line_of}
use Rattle.mat_files.proofs.RowByRow.{lines_more, left_more}
use Rattle.mat_files.proofs.printing.push_lines.Goals as goal

pub loop-row-preserved : goal.loop-row-preserved
loop-row-preserved c =
    let front : c.split_at.result.0.now ≡ take c.args.cols c.loop-row.rest.now = c.split_at.ensures.front in
    let back : c.split_at.result.1.now ≡ drop c.args.cols c.loop-row.rest.now = c.split_at.ensures.back in
    let less : length c.split_at.result.1.now + c.args.cols ≡ length c.loop-row.rest.now = c.split_at.ensures.back_len in
    let written : c.print_line.new.line.items ≡ c.loop-row.text.items ++ line_of c.split_at.result.0.now = c.in_ok-print_line.ensures.ok in
    record {
      whole = lines_more c.loop-row.text.items _ c.split_at.result.0.now c.loop-row.rest.now c.split_at.result.1.now c.args.rows c.loop-row._row c.args.cols (omega arith) front back written ∙ c.loop-row.invariant.whole;
      left = left_more c.loop-row.rest.now c.split_at.result.1.now c.args.rows c.loop-row._row c.args.cols (omega arith) c.loop-row.invariant.left less;
    }
