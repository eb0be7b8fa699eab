use Rattle.std.proofs.Common.{◌∙◌, refl, ap, sym, subst}
use Rattle.std.specs.Arc.{arc_value}
use Rattle.row_pool.specs.Rows.{PoolValue}
use Rattle.standing_pool.specs.Standing.{PartValue}
use Rattle.standing_pool.specs.Inside.Gathered.{FitsPart}
use Rattle.standing_pool.proofs.Crossing.{part_fits}
use Rattle.standing_pool.proofs.part.PartRows.fits.Goals as goal

pub returns : goal.returns
returns c = λ t.
    let i = c.self.inside in
    let e = c.if-not-is_at.ensures in
    subst (λ (r : PoolValue). FitsPart c.args.stage.now c.args.norm c.args.part c.args.parts r) (ap (λ (p : PartValue). p.rows) c.self.view_is)
    (part_fits (arc_value i.system) c.args.stage.now i.number i.closed i.norm i.part i.parts c.args.norm c.args.part c.args.parts i.rows
    (sym c.deref.ensures ∙ c.same.ensures.0 t ∙ c.system.ensures)
    (ap (λ (p : PartValue). p.number) c.self.view_is ∙ (e.place refl).0)
    (ap (λ (p : PartValue). p.closed) c.self.view_is ∙ (e.place refl).1)
    (ap (λ (p : PartValue). p.norm) c.self.view_is ∙ (e.part refl).0)
    (ap (λ (p : PartValue). p.part) c.self.view_is ∙ (e.part refl).1)
    (ap (λ (p : PartValue). p.parts) c.self.view_is ∙ (e.part refl).2)
    c.requires c.self.invariant)
