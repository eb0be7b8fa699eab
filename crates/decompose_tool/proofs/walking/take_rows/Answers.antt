-- The walk goes on over one row more.
use Rattle.std.proofs.Common.{◌≤◌, ◌<◌, length, subst, SFits, w64, to_z-of_z, arith}
use Rattle.std.specs.Prelude.{List, ℤ}
use Rattle.std.proofs.lemmas.List.{take_all}
use Rattle.system_files.specs.Kernel.{rows_in}
use Rattle.decompose_tool.specs.Inside.Steps.{user_of, GoesOverRows}
use Rattle.decompose_tool.proofs.RowWalks.{rows_more}
use Rattle.decompose_tool.proofs.walking.take_rows.Goals as goal

pub loop-i-preserved : goal.loop-i-preserved
loop-i-preserved c =
    let s = c.args.shaped.now in
    let rows = rows_in c.args.grid.now in
    let ft : SFits w64 c.args.times = c.ranges.times in
    let l : c.loop-i.i < length rows = omega (arith, c.row_count-i-end.ensures.count, c.loop-i-test.true) in
    record {
      goes = simp to_z-of_z (rows_more s.input.mat.cols s.system.tool (user_of s) c.args.times rows c.loop-i.i c.row.result.now c.args.walk.now c.loop-i.walk c.take_row.new.walk l c.row.ensures.row
          (simp to_z-of_z at c.loop-i.invariant.goes) (simp to_z-of_z at c.in_ok-take_row.ensures.goes));
      open_is = c.in_ok-take_row.ensures.state;
      few = omega (arith, c.in_ok-take_row.ensures.few, c.loop-i.invariant.few);
    }

pub returns-clause-goes : goal.returns-clause-goes
returns-clause-goes c =
    let s = c.args.shaped.now in
    let rows = rows_in c.args.grid.now in
    let ft : SFits w64 c.args.times = c.ranges.times in
    let all : length rows ≤ c.loop-i.i = omega (arith, c.row_count-i-end.ensures.count, c.loop-i-test.false) in
    subst (λ (rs : List (List ℤ)). GoesOverRows s.input.mat.cols s.system.tool (user_of s) c.args.times rs c.args.walk.now c.loop-i.walk) (take_all c.loop-i.i rows all) (simp to_z-of_z at c.loop-i.invariant.goes)
