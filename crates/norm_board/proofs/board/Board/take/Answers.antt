-- The rule allows to ask for the turn, and who has it finds the book.
use Rattle.std.proofs.Common.{arith, ◌<◌, ◌∷◌, List, ℕ, sym, ◌∙◌, ap}
use Rattle.std.specs.Prelude.{Some}
use Rattle.atomic_table.specs.Table.{Me, rest}
use Rattle.norm_board.specs.Rule.{S}
use Rattle.norm_board.specs.Seen.{PassValue}
use Rattle.norm_board.specs.declared.rule.View.{View}
use Rattle.norm_board.proofs.Own.{same_table}
use Rattle.norm_board.proofs.Turns.{takes_turn}
use Rattle.norm_board.proofs.board.Board.take.Goals as goal

pub swap-requires : goal.swap-requires
swap-requires c =
    let i = c.pass.invariant in
    let wide = c.self.invariant.wide in
    let live : 0 < c.pass.inside.seat.me.0.weight = omega (arith, i.weight_is, i.live) in
    let free = ap (λ (v : PassValue). v.view.holding) c.pass.view_is ∙ c.requires.free in
    (same_table _ _ _ _ c.pass.view_is c.self.view_is c.requires.own, omega arith, takes_turn c.self.inside.table.shared.key _ _ c.pass.inside.seat.me live free)

pub exchange-requires : goal.exchange-requires
exchange-requires c =
    let e = c.swap.ensures in
    let t = e.2.0 c.if-swap-ne0.false in
    let at = ap (λ (m : Me S View). m.1) t.1 in (
      e.0 ∙ same_table _ _ _ _ c.pass.view_is c.self.view_is c.requires.own,
      (Some t.0, at ∙ ap (λ (l : List (ℕ × S)). (0, Some t.0) ∷ l) (sym (ap (λ (l : List (ℕ × S)). rest l) at))),
    )
