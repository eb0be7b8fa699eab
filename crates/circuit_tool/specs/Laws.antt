-- The law of circuits, over the definitions alone.
use Rattle.std.specs.Prelude.{List, ℤ}
use Rattle.mat_files.specs.Cells.{Matrix}
use Rattle.system_files.specs.Kernel.{rows_in}
use Rattle.system_files.specs.Basis.{IsGraverBasis}
use Rattle.circuit_tool.specs.Circuits.{AreLeastRows, AreCircuits}

-- of a Graver basis, the rows of least support are exactly the circuits
abbrev pub LeastRowsAreCircuits : Type 0
LeastRowsAreCircuits =
    (mat : Matrix) (set rows : List (List ℤ))
    → IsGraverBasis mat set → AreLeastRows set rows → AreCircuits mat.cols (rows_in mat) rows
