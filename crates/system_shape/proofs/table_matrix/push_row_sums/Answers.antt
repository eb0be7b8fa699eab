use Rattle.system_shape.specs.Tables.{row_sum}
use Rattle.system_shape.proofs.Counted.{row_more}
use Rattle.system_shape.proofs.table_matrix.push_row_sums.Goals as goal

pub loop-i-preserved : goal.loop-i-preserved
loop-i-preserved c =
    row_more (row_sum c.args.k) c.args.cells.now.items c.loop-i.cells.items c.push_row_sum.new.cells.items c.loop-i.i c.loop-i.invariant c.in_ok-push_row_sum.ensures
