-- The laws of steps, over the definitions alone.
use Rattle.std.specs.Prelude.{◌≡◌, List, ℤ, ◌<ℤ◌, length}
use Rattle.mat_files.specs.Cells.{Matrix}
use Rattle.int_vector.specs.Vectors.{dot}
use Rattle.system_files.specs.Kernel.{rows_in}
use Rattle.system_files.specs.Basis.{IsGraverBasis}
use Rattle.climb_tool.specs.Paths.{IsWithinBounds, NoneHelps, candidates, Step, IsStep, after_step, IsOptimal}

-- each step lowers the cost
abbrev pub CostFalls : Type 0
CostFalls =
    (upper cost x : List ℤ) (set : List (List ℤ)) (s : Step) → length s.by ≡ length x
    → IsStep upper cost set x s → dot cost (after_step x s) <ℤ dot cost x

-- where no vector of the Graver basis helps, nor its negative, the point is optimal
abbrev pub StuckIsOptimal : Type 0
StuckIsOptimal =
    (mat : Matrix) (set : List (List ℤ)) (upper cost x : List ℤ)
    → IsGraverBasis mat set
    → length upper ≡ mat.cols
    → IsWithinBounds upper x
    → NoneHelps upper cost x (candidates set)
    → IsOptimal (rows_in mat) upper cost x
