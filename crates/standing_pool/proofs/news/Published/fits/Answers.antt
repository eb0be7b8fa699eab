use Rattle.std.proofs.Common.{◌∙◌, sym, subst, arith}
use Rattle.std.specs.Arc.{arc_value}
use Rattle.standing_pool.specs.Standing.{NewsValue, closed_of}
use Rattle.standing_pool.specs.Inside.Gathered.{IsNextClosed}
use Rattle.standing_pool.proofs.Crossing.{news_fits}
use Rattle.standing_pool.proofs.news.Published.fits.Goals as goal

pub returns : goal.returns
returns c = λ t.
    let i = c.self.inside in
    let v : NewsValue = record { system = arc_value i.system; number = i.number; closed = i.before; norm = i.closed.norm; rows = i.closed.rows } in
    subst (λ (n : NewsValue). IsNextClosed c.args.stage.now (closed_of n)) c.self.view_is
    (news_fits (arc_value i.system) c.args.stage.now i.number i.before v (sym c.deref.ensures ∙ c.same.ensures.0 t ∙ c.system.ensures) (omega (arith)) (omega (arith)) c.requires c.self.invariant)
