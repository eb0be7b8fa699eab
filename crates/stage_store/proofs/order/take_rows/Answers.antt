-- The rows so far are those taken in before and the first i of the pool, and each of them fits.
use Rattle.std.proofs.Common.{◌∙◌, sym, ap, subst, length, ℤ, List, [], arith, All}
use Rattle.int_vector.specs.Range.{InRange}
use Rattle.std.specs.Prelude.{slice_index_or}
use Rattle.lift_core.specs.Inside.OrderedRows.{rows_behind}
use Rattle.stage_store.proofs.Sorting.{pushed_behind, one_row_more, one_fit_more}
use Rattle.stage_store.proofs.order.take_rows.Goals as goal

pub loop-i-preserved : goal.loop-i-preserved
loop-i-preserved c =
    let e = pushed_behind c.loop-i.rows.items c.push.new.self.items c.row.result (slice_index_or c.args.pool.now.rows c.loop-i.i []) c.in_ok-push.ensures.items c.row.ensures.row in
    record {
      rows = one_row_more (rows_behind c.args.rows.now.items) (rows_behind c.loop-i.rows.items) c.args.pool.now.rows c.loop-i.i (rows_behind c.push.new.self.items) (omega (arith, c.len-i-end.ensures)) c.loop-i.invariant.rows e;
      fit = one_fit_more c.args.pool.now.width (rows_behind c.loop-i.rows.items) (rows_behind c.push.new.self.items) (slice_index_or c.args.pool.now.rows c.loop-i.i []) c.loop-i.invariant.fit e
          (ap length (sym c.row.ensures.row) ∙ c.row.ensures.width) (subst (λ (z : List ℤ). All InRange z) c.row.ensures.row c.row.ensures.range);
    }
