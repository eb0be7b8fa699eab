-- The walk over the first file, and then the second.
use Rattle.std.proofs.Common.{◌≡◌, ◌∙◌, ap, subst, rules, SFits, w64, to_z-of_z}
use Rattle.std.specs.Prelude.{ℤ}
use Rattle.system_files.specs.Kernel.{rows_in}
use Rattle.decompose_tool.specs.Rows.{times_of}
use Rattle.decompose_tool.specs.Inside.Steps.{user_of, GoesOverRows}
use Rattle.decompose_tool.proofs.RowWalks.{walked_of}
use Rattle.decompose_tool.proofs.walking.walk_over.Goals as goal

pub returns : goal.returns
returns c =
    let s = c.args.shaped.now in
    let sets = c.args.sets.now in
    let k : c.times.result ≡ times_of s.system.tool = c.times.ensures.value ∙ ap times_of c.tool.ensures in
    let ft : SFits w64 c.times.result = search rules in
    record {
      walked = walked_of s sets c.in_ok-walk.walk c.take_rows.new.walk c.take_second.new.walk c.in_ok-walk.ensures.start
          (subst (λ (z : ℤ). GoesOverRows s.input.mat.cols s.system.tool (user_of s) z (rows_in sets.first) c.in_ok-walk.walk c.take_rows.new.walk) k (simp to_z-of_z at c.in_ok-take_rows.ensures.goes))
          c.in_ok-take_second.ensures.goes;
    }
