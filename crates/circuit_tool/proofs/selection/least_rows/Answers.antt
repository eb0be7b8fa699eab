-- The kept rows in order are those of least support.
use Rattle.std.proofs.Common.{◌≡◌, ◌*◌, ◌∙◌, ap, ap₂, subst, length}
use Rattle.std.specs.List.{filter}
use Rattle.std.proofs.lemmas.Result.{IfOk-weaker}
use Rattle.solution_files.specs.Outputs.{grid_of}
use Rattle.lift_core.specs.Inside.OrderedRows.{rows_behind}
use Rattle.solution_files.specs.Steps.{AreRows}
use Rattle.solution_files.proofs.SelectedRows.{rows_ordered}
use Rattle.system_files.specs.Kernel.{rows_in}
use Rattle.circuit_tool.specs.Inside.Supports.{is_kept}
use Rattle.circuit_tool.proofs.Keeping.{rows_long, lengths_of, kept_are_least}
use Rattle.circuit_tool.proofs.selection.least_rows.Goals as goal

pub lay_out-requires-clause-shape : goal.lay_out-requires-clause-shape
lay_out-requires-clause-shape c =
    let n = c.args.set.now.cols in
    let shape : AreRows n (rows_behind c.put_in_order.new.rows.items) = rows_ordered n (rows_behind c.in_ok-rows.rows.items) (rows_behind c.put_in_order.new.rows.items) c.put_in_order.ensures c.in_ok-rows.ensures.shape in
    rw (ap (λ m. m.cols) c.set.view_is, c.deref-2.ensures.value) shape

pub returns : goal.returns
returns c =
    let set = c.args.set.now in
    let n = set.cols in
    let rows = rows_behind c.put_in_order.new.rows.items in
    let shape : AreRows n rows = rows_ordered n (rows_behind c.in_ok-rows.rows.items) rows c.put_in_order.ensures c.in_ok-rows.ensures.shape in
    let count : length set.cells ≡ set.rows * n = subst (λ m. length m.cells ≡ m.rows * m.cols) c.set.view_is c.set.invariant.count in
    IfOk-weaker c.lay_out.result (λ grid. grid ≡ grid_of c.set.inside.cols (rows_behind c.deref-2.result.now)) _
    (λ grid is. (
      rows,
      kept_are_least n (rows_in set) c.in_ok-least.least.items (rows_long set.rows n set.cells count) c.in_ok-least.ensures
          (rows_behind c.in_ok-rows.rows.items) rows (c.in_ok-rows.ensures.rows ∙ ap (λ l. filter (is_kept l) (rows_in set)) c.deref.ensures.value) c.put_in_order.ensures,
      lengths_of n rows shape,
      is ∙ ap₂ (λ k refs. grid_of k (rows_behind refs)) (ap (λ m. m.cols) c.set.view_is) c.deref-2.ensures.value,
    ))
    c.lay_out.ensures
