-- The rule allows to put the book back and then to give the turn back.
use Rattle.std.proofs.Common.{arith, ◌≡◌, ◌<◌, sym, ◌∙◌, ap, subst}
use Rattle.atomic_table.specs.Table.{Me, Allows, step}
use mathlib.Core.Option.{none}
use Rattle.lift_core.specs.Times.{times}
use Rattle.norm_board.specs.Rule.{S, Ruled, giving, past, IsBookOf, MayGive}
use Rattle.norm_board.specs.Inside.Plays.{gave}
use Rattle.norm_board.specs.Seen.{PassValue, BoardValue}
use Rattle.norm_board.specs.Inside.Fields.{hand}
use Rattle.norm_board.specs.declared.rule.Plan.{Plan}
use Rattle.norm_board.specs.declared.rule.View.{View}
use Rattle.lift_core.proofs.Times.{times-append}
use Rattle.norm_board.proofs.Own.{same_table}
use Rattle.norm_board.proofs.Turns.{gives_turn}
use Rattle.norm_board.proofs.Hands.{filled, handed}
use Rattle.norm_board.proofs.board.Board.give.Goals as goal

pub swap-requires : goal.swap-requires
swap-requires c =
    let i = c.pass.invariant in
    let p = c.pass.inside in
    let wide = c.self.invariant.wide in
    let live : 0 < p.seat.me.0.weight = omega (arith, i.weight_is, i.live) in
    let held = ap (λ (v : PassValue). v.view.holding) c.pass.view_is ∙ c.requires.held in
    let x = c.exchange-empty.ensures in
    let key = c.self.inside.table.shared.key in
    let slots = c.self.inside.table.shared.table_id.slots in
    let e = filled p.seat.me c.exchange-empty.new.seat.me c.args.turn c.into_book.result (i.hand_is ∙ ap hand (i.holding_is ∙ held)) x.3 c.into_book.ensures in
    let plan : c.args.self.now.plan ≡ key = sym (ap (λ (v : BoardValue). v.plan) c.self.view_is) ∙ sym c.self.invariant.plan_is in
    let is_of : IsBookOf key c.args.turn = subst (λ (k : Plan). IsBookOf k c.args.turn) plan c.requires.book in
    let may : MayGive p.seat.me.0 c.args.turn.blocks = subst (λ (v : PassValue). MayGive v.view c.args.turn.blocks) (sym c.pass.view_is) c.requires.blocks in (
      x.0 ∙ same_table _ _ _ _ c.pass.view_is c.self.view_is c.requires.own,
      omega arith,
      subst (λ (m : Me S View). Allows (Ruled key) slots c.exchange-empty.new.seat.id m 1 (λ _. 0) (gave (step slots 1 0 0 none) m)) (sym e)
          (gives_turn key slots _ p.seat.me.0 c.args.turn live held is_of may),
    )

pub invariant_of-pass : goal.invariant_of-pass
invariant_of-pass c =
    let i = c.pass.invariant in
    let p = c.pass.inside in
    let held = ap (λ (v : PassValue). v.view.holding) c.pass.view_is ∙ c.requires.held in
    let g = handed p.seat.me c.exchange-empty.new.seat.me c.swap.new.seat.me c.args.turn c.into_book.result (i.hand_is ∙ ap hand (i.holding_is ∙ held)) c.exchange-empty.ensures.3 c.into_book.ensures c.swap.ensures.2 in
    let may : MayGive p.seat.me.0 c.args.turn.blocks = subst (λ (v : PassValue). MayGive v.view c.args.turn.blocks) (sym c.pass.view_is) c.requires.blocks in
    record {
      weight_is = i.weight_is ∙ sym (ap (λ (m : Me S View). m.0.weight) g);
      done_is = i.done_is ∙ sym (ap (λ (m : Me S View). m.0.done) g);
      holding_is = sym (ap (λ (m : Me S View). m.0.holding) g);
      live = i.live;
      hand_is = ap (λ (m : Me S View). m.1) g;
      found_is = λ _. ap (λ (m : Me S View). m.0.found) g;
      kept = λ x. let k = ap (λ (m : Me S View). times x m.0.kept) g in let d = ap (λ (m : Me S View). times x m.0.drawn) g in
          let a = times-append x p.seat.me.0.kept (past p.seat.me.0.found c.args.turn.blocks) in let f = may.drawn x in omega arith;
    }

pub returns-clause-same : goal.returns-clause-same
returns-clause-same c =
    let i = c.pass.invariant in
    let p = c.pass.inside in
    let held = ap (λ (v : PassValue). v.view.holding) c.pass.view_is ∙ c.requires.held in
    let g = handed p.seat.me c.exchange-empty.new.seat.me c.swap.new.seat.me c.args.turn c.into_book.result (i.hand_is ∙ ap hand (i.holding_is ∙ held)) c.exchange-empty.ensures.3 c.into_book.ensures c.swap.ensures.2 in
    record {
      table = c.swap.ensures.0 ∙ (c.exchange-empty.ensures.0 ∙ (ap (λ (v : PassValue). v.table) c.pass.view_is ∙ c.requires.own.table));
      plan = ap (λ (m : Me S View). m.0.plan) g ∙ (ap (λ (v : PassValue). v.view.plan) c.pass.view_is ∙ c.requires.own.plan);
    }

pub returns-clause-view : goal.returns-clause-view
returns-clause-view c =
    let i = c.pass.invariant in
    let p = c.pass.inside in
    let held = ap (λ (v : PassValue). v.view.holding) c.pass.view_is ∙ c.requires.held in
    let g = handed p.seat.me c.exchange-empty.new.seat.me c.swap.new.seat.me c.args.turn c.into_book.result (i.hand_is ∙ ap hand (i.holding_is ∙ held)) c.exchange-empty.ensures.3 c.into_book.ensures c.swap.ensures.2 in
    ap (λ (m : Me S View). m.0) g ∙ ap (λ (v : PassValue). giving v.view c.args.turn.blocks) c.pass.view_is
