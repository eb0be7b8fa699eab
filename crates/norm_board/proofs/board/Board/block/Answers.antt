use Rattle.std.proofs.Common.{arith, ap}
use Rattle.norm_board.specs.Seen.{BoardValue}
use Rattle.norm_board.proofs.board.Board.block.Goals as goal

pub overflow_mul-first : goal.overflow_mul-first
overflow_mul-first c =
    let i = c.self.invariant in
    let blocks = ap (λ (b : BoardValue). b.plan.blocks) c.self.view_is in
    let number = c.requires in
    omega (arith, number, blocks, i.blocks_is, i.pairs_is, i.pairs_most)
