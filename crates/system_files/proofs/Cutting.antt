-- The rows that a matrix is cut into.
use Rattle.lift_core.proofs.Cells.{length-cut_rows}

pub ruleset row_laws = (length-cut_rows, length-cut_rows)
