-- A row stays, or it leads negative and its negative is a row.
use Rattle.std.proofs.Common.{◌≡◌, ◌+◌, ◌++◌, [], ◌∷◌, List, length, get_or, sym, ap, ◌∙◌, arith, Bor, ℤ, length-append, refl, false, drop}
use Rattle.std.specs.List.{AllByRecursion, filter}
use Rattle.int_vector.specs.Range.{InRange}
use Rattle.lift_core.specs.Inside.OrderedRows.{rows_behind}
use Rattle.solution_files.specs.Steps.{is_left_out, without_negatives}
use Rattle.solution_files.proofs.SelectedRows.{stays, one_more_kept, one_more_left, each_behind}
use Rattle.solution_files.proofs.selection.without_negatives.Goals as goal
use Rattle.solution_files.proofs.selection.without_negatives.Goals.{then-not-branch+in_ok-push, else-not-branch}

pub is_left_out-requires-clause-range : goal.is_left_out-requires-clause-range
is_left_out-requires-clause-range c = each_behind (λ row. AllByRecursion InRange row) c.args.rows.now c.loop-row.row-index _ c.loop-row-test.true c.requires.range

pub loop-row-preserved : goal.loop-row-preserved
loop-row-preserved c =
    elim c.if-not-branch.branch [
      | then-not-branch+in_ok-push w ↦
          let pushed : c.if-not-branch.kept.items ≡ c.loop-row.kept.items ++ get_or c.args.rows.now c.loop-row.row-index (record { ref_ptr = (0, 0); now = [] }) ∷ [] = ap (λ v. v.items) w.kept-is ∙ w.in_ok-push.ensures.items in
          let positive : is_left_out (rows_behind c.args.rows.now) (get_or c.args.rows.now c.loop-row.row-index (record { ref_ptr = (0, 0); now = [] })).now ≡ false = sym c.in_ok-is_left_out.ensures ∙ w.if-not-branch.true in
          record {
            so_far = one_more_kept (rows_behind c.args.rows.now) c.args.rows.now c.loop-row.row-index _ _ c.loop-row.kept.items c.if-not-branch.kept.items (without_negatives (rows_behind c.args.rows.now)) c.loop-row-test.true refl positive pushed c.loop-row.invariant.so_far;
            count = omega (arith, ap length pushed, length-append {A = Bor (List ℤ)});
          }
      | else-not-branch w ↦
          let same : c.if-not-branch.kept.items ≡ c.loop-row.kept.items = ap (λ v. v.items) w.kept-is in
          record {
            so_far =
                ap (λ refs. rows_behind refs ++ filter (stays (rows_behind c.args.rows.now)) (rows_behind (drop (c.loop-row.row-index + 1) c.args.rows.now))) same
                ∙ one_more_left (rows_behind c.args.rows.now) c.args.rows.now c.loop-row.row-index _ _ (rows_behind c.loop-row.kept.items) (without_negatives (rows_behind c.args.rows.now)) c.loop-row-test.true refl (sym c.in_ok-is_left_out.ensures ∙ w.if-not-branch.false) c.loop-row.invariant.so_far;
            count = omega (arith, ap length same);
          }
    ]
