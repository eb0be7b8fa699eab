-- No row is left.
use Rattle.std.proofs.Common.{◌≤◌, length, refl, SFits, w64, to_z-of_z, arith}
use Rattle.decompose_tool.specs.Inside.Steps.{user_of}
use Rattle.decompose_tool.proofs.Filling.{all_stand}
use Rattle.decompose_tool.proofs.UserRows.{few_user_rows}
use Rattle.decompose_tool.proofs.checking.rows_stand.Goals as goal

pub returns : goal.returns
returns c =
    let s = c.args.shaped.now in
    let ft : SFits w64 c.args.times = c.ranges.times in
    let none : length (user_of s).rows ≤ c.loop-i.i = omega (arith, few_user_rows s.system.tool s.input, c.row_count-i-end.ensures.rows, c.loop-i-test.false) in
    (λ t. (simp to_z-of_z at c.loop-i.invariant).1 (all_stand (user_of s).rows c.loop-i.i c.args.times c.args.x.now none), λ h. refl)
