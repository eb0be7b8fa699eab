-- A row is taken where it is kept, and passed over where it is not.
use Rattle.std.proofs.Common.{◌≡◌, ◌<◌, ◌+◌, ◌++◌, ◌∷◌, [], ◌∙◌, ap, subst, sym, length, drop, arith, true, false, length-append}
use Rattle.std.specs.List.{filter}
use Rattle.std.proofs.lemmas.List.Elements.{recursion_from_All}
use Rattle.int_vector.specs.Range.{InRange}
use Rattle.lift_core.specs.Inside.OrderedRows.{rows_behind}
use Rattle.solution_files.specs.Steps.{AreRows}
use Rattle.system_files.specs.Kernel.{rows_in}
use Rattle.circuit_tool.specs.Inside.Supports.{is_kept}
use Rattle.circuit_tool.proofs.Keeping.{row_pushed, row_left, shape_pushed}
use Rattle.circuit_tool.proofs.selection.kept_rows.Goals as goal
use Rattle.circuit_tool.proofs.selection.kept_rows.Goals.{then-is_kept+in_ok-push, else-is_kept}

pub loop-i-preserved : goal.loop-i-preserved
loop-i-preserved c =
    let n = c.args.set.now.cols in
    let set = rows_in c.args.set.now in
    let test = is_kept c.args.least.now in
    let inside : c.loop-i.i < length set = omega (arith, c.row_count-i-end.ensures.count) in
    let old = c.loop-i.rows.items in
    let new = c.if-is_kept.rows.items in
    let vector = c.row-vector.result in
    elim c.if-is_kept.branch [
      | then-is_kept+in_ok-push w ↦
          let pushed : new ≡ old ++ vector ∷ [] = ap (λ v. v.items) w.rows-is ∙ w.in_ok-push.ensures.items in
          let kept : test vector.now ≡ true = sym c.is_kept.ensures ∙ w.if-is_kept.true in
          record {
            rows = row_pushed test set c.loop-i.i old new vector (filter test set) inside c.row-vector.ensures.row kept pushed c.loop-i.invariant.rows;
            shape = shape_pushed n old new vector pushed c.row-vector.ensures.width (recursion_from_All InRange vector.now c.row-vector.ensures.range) c.loop-i.invariant.shape;
            count = omega (arith, ap length pushed, length-append old (vector ∷ []), c.loop-i.invariant.count);
          }
      | else-is_kept w ↦
          let same : new ≡ old = ap (λ v. v.items) w.rows-is in
          let left : test vector.now ≡ false = sym c.is_kept.ensures ∙ w.if-is_kept.false in
          record {
            rows = ap (λ refs. rows_behind refs ++ filter test (drop (c.loop-i.i + 1) set)) same ∙ row_left test set c.loop-i.i old vector.now (filter test set) inside c.row-vector.ensures.row left c.loop-i.invariant.rows;
            shape = subst (λ refs. AreRows n (rows_behind refs)) (sym same) c.loop-i.invariant.shape;
            count = omega (arith, ap length same, c.loop-i.invariant.count);
          }
    ]

pub returns-clause-count : goal.returns-clause-count
returns-clause-count c = omega (arith, c.loop-i.invariant.count, c.row_count-i-end.ensures.small)
