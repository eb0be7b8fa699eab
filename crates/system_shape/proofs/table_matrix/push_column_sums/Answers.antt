use Rattle.system_shape.specs.Tables.{column_sum}
use Rattle.system_shape.proofs.Counted.{row_more}
use Rattle.system_shape.proofs.table_matrix.push_column_sums.Goals as goal

pub loop-j-preserved : goal.loop-j-preserved
loop-j-preserved c =
    row_more (column_sum c.args.k) c.args.cells.now.items c.loop-j.cells.items c.push_column_sum.new.cells.items c.loop-j.j c.loop-j.invariant c.in_ok-push_column_sum.ensures
