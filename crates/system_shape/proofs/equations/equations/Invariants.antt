-- The entries so far and those of the rows that are left are all.
use Rattle.std.proofs.Common.{◌≡◌, ◌++◌, ◌≤◌, drop}
use Rattle.lift_core.specs.Lists.{cut_rows}
use Rattle.system_shape.specs.Shape.{user_rows}
use Rattle.system_shape.specs.Inside.Cells.{cells_from}
use Rattle.system_shape.proofs.equations.equations.Given as goal

abbrev pub invariant-loop-row : goal.invariant-loop-row
invariant-loop-row l = record {
  done : l.entries.items ++ cells_from l.x0 l.before (user_rows (drop l.row (cut_rows l.mat.rows l.mat.cols l.mat.cells)) (drop l.row l.relations) (drop l.row l.rights))
      ≡ cells_from l.x0 0 (user_rows (cut_rows l.mat.rows l.mat.cols l.mat.cells) l.relations l.rights);
  few : l.before ≤ l.row;
}
