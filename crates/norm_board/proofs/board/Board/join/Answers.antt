-- The rule allows the join, and what the joined pass has is what both had.
use Rattle.std.proofs.Common.{arith, ◌≡◌, ◌<◌, ◌||◌, Bool, sym, ◌∙◌, ap}
use Rattle.atomic_table.specs.Table.{Me}
use Rattle.lift_core.specs.Times.{times}
use Rattle.norm_board.specs.Rule.{S}
use Rattle.norm_board.specs.Seen.{PassValue}
use Rattle.norm_board.specs.Inside.Fields.{hand}
use Rattle.norm_board.specs.declared.rule.View.{View}
use Rattle.lift_core.proofs.Times.{times-append}
use Rattle.norm_board.proofs.Own.{same_table, same_plan}
use Rattle.norm_board.proofs.Steps.{joins, looks}
use Rattle.norm_board.proofs.board.Board.join.Goals as goal
use Rattle.norm_board.proofs.board.Board.join.Goals.{then-pass, else-pass}

pub join_seat-requires : goal.join_seat-requires
join_seat-requires c =
    let i = c.pass.invariant in
    let o = c.other.invariant in
    let wide = c.self.invariant.wide in
    let live : 0 < c.pass.inside.seat.me.0.weight = omega (arith, i.weight_is, i.live) in
    let lives : 0 < c.other.inside.seat.me.0.weight = omega (arith, o.weight_is, o.live) in
    let free = ap (λ (v : PassValue). v.view.holding) c.other.view_is ∙ c.requires.free in
    let empty = o.hand_is ∙ ap hand (o.holding_is ∙ free) in (
      same_table _ _ _ _ c.pass.view_is c.self.view_is c.requires.own,
      same_table _ _ _ _ c.other.view_is c.self.view_is c.requires.others,
      empty,
      omega arith,
      joins c.self.inside.table.shared.key _ c.pass.inside.seat.me.0 _ c.other.inside.seat.me.0 live lives free,
    )

pub load-requires : goal.load-requires
load-requires c =
    let wide = c.self.invariant.wide in
    let e = c.join_seat.ensures in
    let own = same_table _ _ _ _ c.pass.view_is c.self.view_is c.requires.own in
    let plan = ap (λ (m : Me S View). m.0.plan) e.2 ∙ (same_plan _ _ _ _ c.pass.view_is c.self.view_is c.requires.own ∙ sym c.self.invariant.plan_is) in
    (e.0 ∙ own, omega arith, looks c.self.inside.table.shared.key _ _ c.join_seat.new.seat.me plan)

pub invariant_of-pass : goal.invariant_of-pass
invariant_of-pass c =
    let i = c.pass.invariant in
    let o = c.other.invariant in
    let v = c.pass.inside.seat.me.0 in
    let w = c.other.inside.seat.me.0 in
    let e = c.load.ensures.2.0 ∙ c.join_seat.ensures.2 in
    let got = ap (λ (m : Me S View). m.0) e in
    let weight = ap (λ (u : View). u.weight) got in
    let first = i.weight_is in
    let second = o.weight_is in
    let live = i.live in
    let done : c.if-pass.pass ≡ (c.pass.inside.done || c.other.inside.done) = elim c.if-pass.branch [
      | then-pass w ↦ w.pass-is ∙ (w.if-pass.true ∙ sym (ap (λ (b : Bool). b || c.other.inside.done) w.if-pass.true))
      | else-pass w ↦ w.pass-is ∙ sym (ap (λ (b : Bool). b || c.other.inside.done) w.if-pass.false)
    ] in
    record {
      weight_is = omega arith;
      done_is = done ∙ ((λ k. i.done_is k || o.done_is k) ∙ sym (ap (λ (u : View). u.done) got));
      holding_is = i.holding_is ∙ sym (ap (λ (u : View). u.holding) got);
      live = omega arith;
      hand_is = ap (λ (m : Me S View). m.1) e ∙ i.hand_is;
      found_is = λ h. ap (λ (u : View). u.found) got ∙ i.found_is h;
      kept = λ x. let k = ap (λ (u : View). times x u.kept) got in let d = ap (λ (u : View). times x u.drawn) got in let a = times-append x v.drawn w.drawn in let b = times-append x v.kept w.kept in let f = i.kept x in let g = o.kept x in omega arith;
    }
