-- The rule allows the split, as the pass has weight to give.
use Rattle.std.proofs.Common.{arith, ◌≤◌, ap}
use Rattle.norm_board.specs.Seen.{PassValue}
use Rattle.norm_board.proofs.Own.{same_table}
use Rattle.norm_board.proofs.Steps.{splits}
use Rattle.norm_board.proofs.board.Board.split.Goals as goal

pub split_seat-seat-requires : goal.split_seat-seat-requires
split_seat-seat-requires c =
    let wide = c.self.invariant.wide in
    let more : 2 ≤ c.pass.inside.seat.me.0.weight = rw (ap (λ (v : PassValue). v.view.weight) c.pass.view_is) c.requires.more in
    (same_table _ _ _ _ c.pass.view_is c.self.view_is c.requires.own, omega arith, splits c.self.inside.table.shared.key _ c.pass.inside.seat.me.0 more)
