-- The sum so far and the cell's absolute value stay in range.
use Rattle.std.proofs.Common.{◌<◌, arith, rules, length, get_or, pos, SFits, w64, to_z-of_z}
use Rattle.int_vector.proofs.Steps.{norm_more}
use Rattle.tool_top.proofs.outputs.norm_of_cells.Goals as goal

pub loop-cell-preserved : goal.loop-cell-preserved
loop-cell-preserved c =
    let l : c.loop-cell.cell-index < length c.args.cells.now = omega arith in
    let f : SFits w64 (get_or c.args.cells.now c.loop-cell.cell-index (pos 0)) = search rules in
    record {
      sum = omega (arith, norm_more c.args.cells.now c.loop-cell.cell-index (pos 0) l, c.loop-cell.invariant.sum, simp to_z-of_z at c.unsigned_abs.ensures.value, c.from-total.ensures);
      most = omega (arith, c.loop-cell.invariant.most, c.unsigned_abs.ensures.bound, c.from-total.ensures);
    }
