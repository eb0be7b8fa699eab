-- All rows were tried.
use Rattle.std.proofs.Common.{rules, ◌≤◌, length, ap, arith}
use Rattle.std.proofs.lemmas.List.{take_all}
use Rattle.lift_core.proofs.Cells.{length-cut_rows}
use Rattle.system_files.specs.Kernel.{rows_in}
use Rattle.system_files.proofs.kernel.kernel_fault.Goals as goal

pub returns : goal.returns
returns c =
    let set = c.args.set.now in
    let all : length (rows_in set) ≤ c.loop-i.i = omega (arith, length-cut_rows set.rows set.cols set.cells, ap (λ m. m.rows) c.set.view_is) in
    rw (take_all c.loop-i.i (rows_in set) all) at c.loop-i.invariant

pub loop-i-init : goal.loop-i-init
loop-i-init c = search rules
