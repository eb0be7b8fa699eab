-- A line more is written, and when none is left the text is whole.
use Rattle.std.proofs.Common.{◌≡◌, ◌<◌, ◌+◌, arith, length, take, drop}
use Rattle.std.proofs.lemmas.Result.{err_from_is_err_and}
use Rattle.solution_files.proofs.Writing.{row_fits, rest_fits, one_line_more, one_line_refused, no_line_more}
use Rattle.solution_files.proofs.output.append_rows.Goals as goal

pub split_at-requires : goal.split_at-requires
split_at-requires g c = row_fits c.grid.inside.rows c.loop-row._row c.grid.inside.cols (length c.loop-row.rest.now) c.loop-row-test.true (rw (← c.grid.view_is) at c.loop-row.invariant.cells)

pub loop-row-preserved : goal.loop-row-preserved
loop-row-preserved g c =
    let below : c.loop-row._row < c.args.grid.now.rows = rw (← c.grid.view_is) c.loop-row-test.true in
    let front : c.split_at.result.0.now ≡ take c.args.grid.now.cols c.loop-row.rest.now = rw (← c.grid.view_is) c.split_at.ensures.front in
    let back : c.split_at.result.1.now ≡ drop c.args.grid.now.cols c.loop-row.rest.now = rw (← c.grid.view_is) c.split_at.ensures.back in
    let left : length c.split_at.result.1.now + c.args.grid.now.cols ≡ length c.loop-row.rest.now = rw (← c.grid.view_is) c.split_at.ensures.back_len in
    record {
      held = λ text before start.
          one_line_more c.args.name.now text c.args.grid.now.rows c.loop-row._row c.args.grid.now.cols c.loop-row.rest.now before (g.F.Folder.held c.loop-row.folder) (g.F.Folder.held c.append_line.new.folder)
          c.split_at.result.0.now c.split_at.result.1.now below front back c.in_ok-append_line.ensures.done (c.loop-row.invariant.held text before start);
      cells = rest_fits c.args.grid.now.rows c.loop-row._row c.args.grid.now.cols (length c.loop-row.rest.now) (length c.split_at.result.1.now) below c.loop-row.invariant.cells left;
      later = omega (arith, c.loop-row.invariant.later, c.in_ok-append_line.ensures.cause.later);
    }

pub returns-clause-done : goal.returns-clause-done
returns-clause-done g c = λ text before start.
    no_line_more c.args.name.now text c.args.grid.now.rows c.loop-row._row c.args.grid.now.cols c.loop-row.rest.now before (g.F.Folder.held c.loop-row.folder) (g.F.Folder.held c.loop-row.folder)
    (rw (← c.grid.view_is) c.loop-row-test.false) (c.loop-row.invariant.held text before start)

pub returns-in_err-append_line-clause-refused : goal.returns-in_err-append_line-clause-refused
returns-in_err-append_line-clause-refused g c = λ text before start.
    let p = err_from_is_err_and c.from_residual.result c.from_residual.ensures.1 in
    let below : c.loop-row._row < c.args.grid.now.rows = rw (← c.grid.view_is) c.loop-row-test.true in
    let front : c.split_at.result.0.now ≡ take c.args.grid.now.cols c.loop-row.rest.now = rw (← c.grid.view_is) c.split_at.ensures.front in
    let back : c.split_at.result.1.now ≡ drop c.args.grid.now.cols c.loop-row.rest.now = rw (← c.grid.view_is) c.split_at.ensures.back in
    rw p.1
    (one_line_refused c.args.name.now text c.args.grid.now.rows c.loop-row._row c.args.grid.now.cols c.loop-row.rest.now before (g.F.Folder.held c.loop-row.folder) (g.F.Folder.held c.append_line.new.folder)
    c.split_at.result.0.now c.split_at.result.1.now below front back c.in_err-append_line.ensures.refused (c.loop-row.invariant.held text before start))
