-- The rule allows the draw, and the pass has the block that it drew.
use Rattle.std.proofs.Common.{arith, ◌≡◌, ◌<◌, ◌∷◌, [], false, sym, ◌∙◌, ap}
use Rattle.lift_core.specs.Times.{times}
use Rattle.norm_board.specs.declared.rule.Plan.{Plan}
use Rattle.norm_board.specs.declared.rule.View.{View}
use Rattle.lift_core.proofs.Times.{times-append}
use Rattle.norm_board.proofs.Own.{same_table, same_plan}
use Rattle.norm_board.proofs.Steps.{draws}
use Rattle.norm_board.proofs.board.Board.draw.Goals as goal

pub fetch_add-number-requires : goal.fetch_add-number-requires
fetch_add-number-requires c =
    let p = c.pass.inside in
    let i = c.pass.invariant in
    let wide = c.self.invariant.wide in
    let live : 0 < p.seat.me.0.weight = omega (arith, i.weight_is, i.live) in
    let going : p.seat.me.0.done ≡ false = sym i.done_is ∙ c.if-pass.false in
    (same_table _ _ _ _ c.pass.view_is c.self.view_is c.requires, omega arith, draws c.self.inside.table.shared.key _ _ p.seat.me live going)

pub invariant_of-pass : goal.invariant_of-pass
invariant_of-pass c =
    let i = c.pass.invariant in
    let m = c.pass.inside.seat.me in
    let n = c.fetch_add-number.result in
    let e = c.fetch_add-number.ensures.2 in
    let blocks : m.0.plan.blocks ≡ c.self.inside.plan.blocks = ap (λ (q : Plan). q.blocks) (same_plan _ _ _ _ c.pass.view_is c.self.view_is c.requires) in
    let lt = c.if-number-self.true in
    let got = (e.1 (omega arith)).0 in record {
      weight_is = i.weight_is ∙ sym (ap (λ (v : View). v.weight) got);
      done_is = i.done_is ∙ sym (ap (λ (v : View). v.done) got);
      holding_is = i.holding_is ∙ sym (ap (λ (v : View). v.holding) got);
      live = i.live;
      hand_is = e.0 ∙ i.hand_is;
      found_is = λ h. ap (λ (v : View). v.found) got ∙ i.found_is h;
      kept = λ x. let k = ap (λ (v : View). times x v.kept) got in let d = ap (λ (v : View). times x v.drawn) got in let a = times-append x m.0.drawn (n ∷ []) in let f = i.kept x in omega arith;
    }
