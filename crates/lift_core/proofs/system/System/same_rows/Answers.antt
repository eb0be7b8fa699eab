-- Entries that are cut into the same rows are the same, and the other way round.
use Rattle.std.proofs.Common.{rules, ◌≡◌, ◌∙◌, ◌*◌, ◌<◌, length, ap, ap₂, sym, arith}
use Rattle.std.specs.Prelude.{IsTrue, ◌↔◌}
use Rattle.lift_core.specs.Systems.{ToolSystem}
use Rattle.lift_core.specs.Lists.{cut_rows}
use Rattle.lift_core.proofs.Cells.{rows_same, same_count}
use Rattle.lift_core.proofs.system.System.same_rows.Goals as goal

pub returns : goal.returns
returns c =
    let a = c.self.inside in
    let b = c.other.inside in
    let i = c.self.invariant in
    let j = c.other.invariant in
    let p : a.signs.items ≡ b.signs.items = ap (λ (t : ToolSystem). t.equations.signs) c.self.view_is ∙ c.requires ∙ sym (ap (λ (t : ToolSystem). t.equations.signs) c.other.view_is) in
    let w : length a.signs.items ≡ length b.signs.items = ap length p in
    let r : c.args.self.now.equations.rows ≡ cut_rows a.count (length a.signs.items) a.cells.items = sym (ap (λ (t : ToolSystem). t.equations.rows) c.self.view_is) in
    let s : c.args.other.now.equations.rows ≡ cut_rows b.count (length a.signs.items) b.cells.items = sym (ap (λ (t : ToolSystem). t.equations.rows) c.other.view_is) ∙ ap (λ n. cut_rows b.count n b.cells.items) (sym w) in
    let la : length a.cells.items ≡ a.count * length a.signs.items = i.1 in
    let lb : length b.cells.items ≡ b.count * length a.signs.items = j.1 ∙ ap (λ n. b.count * n) (sym w) in
    let some : 0 < length a.signs.items = omega (arith, i.0.some_columns, i.0.first_columns) in
    let same : IsTrue c.same.result ↔ (a.cells.items ≡ b.cells.items) = search rules in (
      λ t. let e : a.cells.items ≡ b.cells.items = same.0 t in
          r ∙ ap₂ (λ n l. cut_rows n (length a.signs.items) l) (same_count a.count b.count (length a.signs.items) some (sym la ∙ ap length e ∙ lb)) e ∙ sym s,
      λ e. same.1 (rows_same a.count b.count (length a.signs.items) a.cells.items b.cells.items la lb (sym r ∙ e ∙ s)),
    )
