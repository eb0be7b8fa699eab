-- The rows are cut out of all entries, so each has an entry for each column.
use Rattle.std.proofs.Common.{rules, ◌≡◌, ◌*◌, ◌/◌, ◌≤◌, length, ap₂, sym, ◌∙◌, arith}
use Rattle.lift_core.proofs.Cells.{built_system-fits, whole_rows, few_rows}
use Rattle.lift_core.proofs.system.System.build.Goals as goal

pub invariant_of-result : goal.invariant_of-result
invariant_of-result c =
    let q = c.requires in
    let e : c.len.result ≡ length c.args.rows.items = search rules in
    let w : c.args.width ≡ length c.args.signs.items = omega (arith, q.lengths) in
    let l : length c.args.rows.items ≡ c.len.result / c.args.width * length c.args.signs.items =
    whole_rows (length c.args.rows.items) c.args.width q.lengths.1 ∙ ap₂ (λ n v. n / c.args.width * v) (sym e) w in
    let m : c.len.result / c.args.width ≤ 64 = few_rows c.len.result c.args.width (omega (arith, q.columns)) (omega (arith, q.lengths)) in
    (built_system-fits c.args.tool c.args.n c.args.signs.items c.args.caps.items (c.len.result / c.args.width) c.args.rows.items q.columns.0 q.columns.1 (omega arith) (omega arith) m l q.range q.signs (omega (arith, q.caps.0, w)) q.caps.1 q.x0, l, search rules)
