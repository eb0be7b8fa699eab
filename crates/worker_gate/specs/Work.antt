-- A worker before and after its part.
use Rattle.std.specs.Prelude.{◌≡◌, ℕ, ◌≤◌, [], false}
use Rattle.lift_core.specs.Times.{times}
use Rattle.norm_board.specs.declared.rule.View.{View}
use Rattle.norm_board.specs.declared.pass.Pass.{Pass}
use Rattle.norm_board.specs.declared.board.Board.{Board}
use Rattle.norm_board.specs.Books.{BookValue}
use Rattle.norm_board.specs.Rule.{IsBookOf}
use Rattle.norm_board.specs.Puts.{HasOpen}
use Rattle.norm_board.specs.Seen.{view, Belongs}

-- the share has what the pass has drawn and not kept, and the pass does not hold the turn
pub record IsWorker (board : Board) (pass : Pass) (share : BookValue) : Type 0 where
  pub own : Belongs board pass
  pub free : (view pass).holding ≡ false
  pub is_of : IsBookOf board.plan share
  pub blocks : HasOpen (view pass) share.blocks

-- it does not hold the turn, and has drawn nothing
pub record IsFresh (v : View) : Type 0 where
  pub free : v.holding ≡ false
  pub drawn : v.drawn ≡ []

-- drawn and kept blocks stay so
pub record KeepsBlocks (v w : View) : Type 0 where
  pub drawn : (x : ℕ) → times x v.drawn ≤ times x w.drawn
  pub kept : (x : ℕ) → times x v.kept ≤ times x w.kept
