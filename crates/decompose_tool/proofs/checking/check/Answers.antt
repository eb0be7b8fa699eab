-- All rows were tried.
use Rattle.std.proofs.Common.{◌≤◌, length, ap, subst, SFits, w64, to_z-of_z, arith}
use Rattle.std.specs.List.{AllByRecursion}
use Rattle.std.proofs.lemmas.List.{take_all}
use Rattle.lift_core.proofs.Cells.{length-cut_rows}
use Rattle.system_files.specs.Kernel.{rows_in}
use Rattle.decompose_tool.specs.Rows.{IsSoundRow}
use Rattle.decompose_tool.specs.Inside.Steps.{user_of}
use Rattle.decompose_tool.proofs.checking.check.Goals as goal

pub returns : goal.returns
returns c =
    let grid = c.args.grid.now in
    let ft : SFits w64 c.args.times = c.ranges.times in
    let all : length (rows_in grid) ≤ c.loop-i.i = omega (arith, length-cut_rows grid.rows grid.cols grid.cells, ap (λ m. m.rows) c.grid.view_is, c.loop-i-test.false) in
    subst (AllByRecursion (IsSoundRow (user_of c.args.shaped.now) c.args.times)) (take_all c.loop-i.i (rows_in grid) all) (simp to_z-of_z at c.loop-i.invariant)
