use Rattle.std.proofs.Common.{◌≡◌, ◌≤◌, ◌*◌, take}
use Rattle.int_vector.specs.Vectors.{norm}
use Rattle.tool_top.proofs.outputs.norm_of_cells.Given as goal

abbrev pub invariant-loop-cell : goal.invariant-loop-cell
invariant-loop-cell l = record {
  sum : l.total ≡ norm (take l.cell-index l.cells);
  most : l.total ≤ l.cell-index * 9223372036854775808;
}
