-- The point's full vector is as long as the system is wide, and in range.
use Rattle.std.proofs.Common.{◌≡◌, ◌∙◌, ap, sym, subst, subst₂, arith, length, get_or, [], rules, SFits, w64, to_z-of_z}
use Rattle.std.specs.Prelude.{List, ℤ}
use Rattle.std.specs.List.{AllByRecursion}
use Rattle.int_vector.specs.Range.{InRange}
use Rattle.lift_core.proofs.Cells.{length-cut_rows}
use Rattle.system_shape.specs.Problem.{full_vector}
use Rattle.system_files.specs.Kernel.{rows_in}
use Rattle.decompose_tool.specs.Rows.{times_of, IsSoundRow}
use Rattle.decompose_tool.specs.Inside.Steps.{user_of, Fills}
use Rattle.decompose_tool.proofs.Filling.{each_at, norm_range}
use Rattle.decompose_tool.proofs.FullVectors.{filled, full_width}
use Rattle.decompose_tool.proofs.walking.start.Goals as goal

pub returns-clause-state : goal.returns-clause-state
returns-clause-state c =
    let s = c.args.shaped.now in
    let point = c.args.point.now in
    let x = get_or (rows_in point) 0 [] in
    let k = times_of s.system.tool in
    let sound : IsSoundRow (user_of s) k x = each_at (IsSoundRow (user_of s) k) (rows_in point) 0 [] c.requires.sound (omega (arith, length-cut_rows point.rows point.cols point.cells, c.requires.row)) in
    let same : c.times.result ≡ k = c.times.ensures.value ∙ ap times_of c.tool.ensures in
    let ft : SFits w64 c.times.result = search rules in
    let fills : Fills (full_vector (user_of s) k x) c.fill.new.full.items c.in_ok-fill.field-0 =
    subst₂ (λ (z : ℤ) (y : List ℤ). Fills (full_vector (user_of s) z y) c.fill.new.full.items c.in_ok-fill.field-0) same c.row.ensures.row (simp to_z-of_z at c.in_ok-fill.ensures) in
    let is : c.fill.new.full.items ≡ full_vector (user_of s) k x = filled (full_vector (user_of s) k x) c.fill.new.full.items c.in_ok-fill.field-0 sound.full fills in record {
      width = ap length is ∙ full_width s k x c.requires.read sound.solution;
      range = subst (AllByRecursion InRange) (sym is) (norm_range (full_vector (user_of s) k x) sound.full);
    }
