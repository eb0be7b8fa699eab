-- The rows of the kind are put in order, and for graver some are left out.
use Rattle.std.proofs.Common.{◌≡◌, ◌∙◌, sym, ap, subst, arith, inl, inr}
use Rattle.std.proofs.lemmas.List.{length-map}
use Rattle.std.proofs.lemmas.Result.{IfOk-weaker}
use Rattle.lift_core.specs.declared.Tool.TheVariants.{Graver, Hilbert, Zsolve}
use Rattle.solution_files.specs.Outputs.{kind_of}
use Rattle.lift_core.specs.Inside.OrderedRows.{rows_behind, IsOrdered}
use Rattle.solution_files.specs.Steps.{AreRows, projected, without_negatives}
use Rattle.solution_files.proofs.SelectedRows.{selected_plain, selected_graver, rows_small, rows_ordered, rows_kept}
use Rattle.solution_files.proofs.selection.selected_rows.Goals as goal

pub without_negatives-requires-clause-range : goal.without_negatives-requires-clause-range
without_negatives-requires-clause-range c =
    let shape : AreRows c.args.finish.now.system.n (rows_behind c.put_in_order.new.rows.items) = rows_ordered c.args.finish.now.system.n (rows_behind c.in_ok-rows.rows.items) (rows_behind c.put_in_order.new.rows.items) c.put_in_order.ensures c.in_ok-rows.ensures.shape in
    rw c.deref.ensures.value (rows_small c.args.finish.now.system.n (rows_behind c.put_in_order.new.rows.items) shape)

pub returns-in-Graver-clause-selected : goal.returns-in-Graver-clause-selected
returns-in-Graver-clause-selected c =
    let ordered : IsOrdered (projected c.args.finish.now.system.n (kind_of c.args.kind) c.args.finish.now.rows.rows) (rows_behind c.put_in_order.new.rows.items) =
    subst (λ before. IsOrdered before (rows_behind c.put_in_order.new.rows.items)) c.in_ok-rows.ensures.rows c.put_in_order.ensures
    in
    IfOk-weaker c.without_negatives.result (λ kept. rows_behind kept.items ≡ without_negatives (rows_behind c.deref.result.now)) _
    (λ kept left. selected_graver c.args.finish.now.system.tool c.args.finish.now.rows.rows c.args.finish.now.system.n (kind_of c.args.kind) (rows_behind c.put_in_order.new.rows.items) (rows_behind kept.items) (sym c.in-Graver.ensures) ordered (left ∙ ap (λ refs. without_negatives (rows_behind refs)) c.deref.ensures.value))
    c.without_negatives.ensures.kept

pub returns-in-Graver-clause-shape : goal.returns-in-Graver-clause-shape
returns-in-Graver-clause-shape c =
    let shape : AreRows c.args.finish.now.system.n (rows_behind c.put_in_order.new.rows.items) = rows_ordered c.args.finish.now.system.n (rows_behind c.in_ok-rows.rows.items) (rows_behind c.put_in_order.new.rows.items) c.put_in_order.ensures c.in_ok-rows.ensures.shape in
    IfOk-weaker c.without_negatives.result (λ kept. rows_behind kept.items ≡ without_negatives (rows_behind c.deref.result.now)) _
    (λ kept left. subst (AreRows c.args.finish.now.system.n) (sym (left ∙ ap (λ refs. without_negatives (rows_behind refs)) c.deref.ensures.value)) (rows_kept c.args.finish.now.system.n (rows_behind c.put_in_order.new.rows.items) shape))
    c.without_negatives.ensures.kept

pub returns : goal.returns
returns c = record {
  selected =
      selected_plain c.args.finish.now.system.tool c.args.finish.now.rows.rows c.args.finish.now.system.n (kind_of c.args.kind) (rows_behind c.put_in_order.new.rows.items)
      (λ graver.
      elim c.in-Hilbert.is [
        | inl h ↦ (let e : Graver ≡ Hilbert = sym graver ∙ sym c.tool.ensures ∙ h in cc)
        | inr h ↦ (let e : Graver ≡ Zsolve = sym graver ∙ sym c.tool.ensures ∙ h in cc)
      ])
      (subst (λ before. IsOrdered before (rows_behind c.put_in_order.new.rows.items)) c.in_ok-rows.ensures.rows c.put_in_order.ensures);
  shape = rows_ordered c.args.finish.now.system.n (rows_behind c.in_ok-rows.rows.items) (rows_behind c.put_in_order.new.rows.items) c.put_in_order.ensures c.in_ok-rows.ensures.shape;
  count = omega (arith, c.put_in_order.ensures.count, length-map c.in_ok-rows.rows.items (λ r. r.now), length-map c.put_in_order.new.rows.items (λ r. r.now), c.in_ok-rows.ensures.count);
}
