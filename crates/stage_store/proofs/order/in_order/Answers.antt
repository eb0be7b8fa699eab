-- The rows of both pools are taken in and put in order, each once: members and widths stay, so the pool made of them is
-- the ordered list of both.
use Rattle.std.proofs.Common.{◌∙◌, ◌++◌, ap, sym, subst}
use Rattle.std.specs.List.{Contains}
use Rattle.lift_core.specs.Inside.OrderedRows.{rows_behind}
use Rattle.stage_store.proofs.Sorting.{ordered_pool}
use Rattle.stage_store.proofs.order.in_order.Goals as goal

pub pool_of-requires-clause-fit : goal.pool_of-requires-clause-fit
pool_of-requires-clause-fit c = λ z k.
    let h = c.in_ok-take_rows-2.ensures.fit z ((c.put_in_order.ensures.members z).0 (subst (λ l. Contains (rows_behind l) z) c.deref.ensures.value k)) in
    (h.0 ∙ sym (c.width.ensures ∙ c.requires.width), h.1)

pub returns-clause-rows : goal.returns-clause-rows
returns-clause-rows c =
    ordered_pool c.args.first.now.rows c.args.second.now.rows (rows_behind c.take_rows-2.new.rows.items) (rows_behind c.put_in_order.new.rows.items) (rows_behind c.deref.result.now) c.pool_of.result
    (c.in_ok-take_rows-2.ensures.rows ∙ ap (λ l. l ++ c.args.second.now.rows) (c.in_ok-take_rows.ensures.rows ∙ ap (λ l. rows_behind l ++ c.args.first.now.rows) c.new-rows.ensures.items))
    c.put_in_order.ensures (ap rows_behind c.deref.ensures.value) c.pool_of.ensures.rows
