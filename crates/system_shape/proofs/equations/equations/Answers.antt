-- Each row that is appended moves from what is left to what is done.
use Rattle.std.proofs.Common.{rules, ◌≡◌, ◌≤◌, ◌+◌, ◌++◌, refl, length, get_or, drop, ap, sym, ◌∙◌, pos, arith, w64, SFits, to_z-of_z}
use Rattle.std.specs.Prelude.{ℤ}
use Rattle.lift_core.specs.Lists.{cut_rows}
use Rattle.lift_core.proofs.Cells.{length-cut_rows}
use Rattle.mat_files.specs.declared.relations.Rel.TheVariants.{Most}
use Rattle.system_shape.specs.Shape.{relation_of}
use Rattle.system_shape.specs.Inside.Cells.{row_cells}
use Rattle.system_shape.proofs.UserRows.{row_done, all_done, few_of_relation}
use Rattle.system_shape.proofs.equations.equations.Goals as goal

pub loop-row-preserved : goal.loop-row-preserved
loop-row-preserved c =
    let i = c.loop-row.row in
    let rights = c.args.rights.now in
    let mat = c.args.mat.now in
    let rows = cut_rows mat.rows mat.cols mat.cells in
    let p = c.place_of-place.ensures in
    let place = c.place_of-place.result in
    let right : ℤ = get_or rights i (pos 0) in
    let count : length rows ≡ length c.args.relations.now = length-cut_rows mat.rows mat.cols mat.cells ∙ sym c.requires.relations in
    let fits : SFits w64 (get_or rights i (pos 0)) = search rules in
    let pushed : c.push_row.new.cells.items ≡ c.loop-row.entries.items ++ row_cells c.args.x0 c.coefficients.result.now place.before (relation_of place.relation) place.behind right =
    simp to_z-of_z at c.in_ok-push_row.ensures in
    record {
      done = row_done c.args.x0 rows c.args.relations.now rights i (i + 1) c.loop-row.before place.behind c.with_slack-before.result c.coefficients.result.now place.relation Most right c.loop-row.entries.items
          c.push_row.new.cells.items _ (omega arith) c.loop-row-test.true count (c.requires.rights ∙ sym c.requires.relations) c.loop-row.invariant.done c.coefficients.ensures p.relation refl p.behind
          c.with_slack-before.ensures
          (pushed ∙ ap (λ n. c.loop-row.entries.items ++ row_cells c.args.x0 c.coefficients.result.now n (relation_of place.relation) place.behind right) p.before);
      few = omega (arith, c.with_slack-before.ensures, few_of_relation (relation_of place.relation) c.loop-row.before);
    }

pub returns : goal.returns
returns c =
    let rows = cut_rows c.args.mat.now.rows c.args.mat.now.cols c.args.mat.now.cells in
    let none : length rows ≤ c.loop-row.row = omega (arith, length-cut_rows c.args.mat.now.rows c.args.mat.now.cols c.args.mat.now.cells, c.loop-row-test.false, c.requires.relations) in
    all_done c.args.x0 c.loop-row.before c.loop-row.row rows (drop c.loop-row.row c.args.relations.now) (drop c.loop-row.row c.args.rights.now) c.loop-row.entries.items _ none c.loop-row.invariant.done
