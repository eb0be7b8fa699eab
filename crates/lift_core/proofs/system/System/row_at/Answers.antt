-- A slice of the entries, cut at the place of a row, is that row.
use Rattle.std.proofs.Common.{rules, ◌≡◌, ◌∙◌, ◌+◌, ◌*◌, ◌-◌, ◌<◌, ℤ, List, [], length, get_or, take, drop, ap, subst, sym, arith}
use Rattle.std.specs.List.{All}
use Rattle.int_vector.specs.Range.{InRange}
use Rattle.lift_core.specs.Systems.{ToolSystem}
use Rattle.lift_core.specs.ToolSystems.{IsToolSystem}
use Rattle.lift_core.proofs.Cells.{length-cut_rows, row_cut}
use Rattle.lift_core.proofs.system.System.row_at.Goals as goal

-- what is cut out of the entries is a row of the system, whose entries are in range
pub returns-clause-range : goal.returns-clause-range
returns-clause-range c =
    let p = c.self.inside in
    let t : IsToolSystem c.args.self.now = subst IsToolSystem c.self.view_is c.self.invariant.0 in
    let n : length c.args.self.now.equations.rows ≡ p.count = ap (λ (t : ToolSystem). length t.equations.rows) (sym c.self.view_is) ∙ length-cut_rows p.count (length p.signs.items) p.cells.items in
    let h : c.args.place < p.count = omega (arith, c.requires) in
    let e : c.len-width.result ≡ length p.signs.items = search rules in
    let w : c.args.place * c.len-width.result + c.len-width.result - c.args.place * c.len-width.result ≡ c.len-width.result = omega arith in
    let found : List ℤ = take (c.args.place * c.len-width.result + c.len-width.result - c.args.place * c.len-width.result) (drop (c.args.place * c.len-width.result) c.deref.result.now) in
    let r : found ≡ get_or c.args.self.now.equations.rows c.args.place [] =
    row_cut p.count (length p.signs.items) c.args.place p.cells.items c.deref.result.now found c.len-width.result h c.deref.ensures.value e (ap (λ n. take n (drop (c.args.place * c.len-width.result) c.deref.result.now)) w)
    ∙ ap (λ (t : ToolSystem). get_or t.equations.rows c.args.place []) c.self.view_is in
    subst (λ (r : List ℤ). All InRange r) (sym r) (t.entries c.args.place [] (omega (arith, c.requires)))
