-- What putting a share does.
use Rattle.std.specs.Prelude.{◌≡◌, ℕ, ◌+◌, ◌<◌, ◌≤◌, List, []}
use Rattle.lift_core.specs.Times.{times}
use Rattle.norm_board.specs.Books.{BookValue, IsSame}
use Rattle.norm_board.specs.Rule.{missing}
use Rattle.norm_board.specs.declared.rule.View.{View}
use Rattle.norm_board.specs.declared.board.puts.Put.{Put}
use Rattle.norm_board.specs.declared.board.puts.Put.TheVariants.{Kept, Held, Memory}

-- the blocks are among those that the pass has drawn and not kept, each once
abbrev pub Open : View → List ℕ → Type 0
Open v blocks = (x : ℕ) → times x v.kept + times x blocks ≤ times x v.drawn

-- the blocks are all those that the pass has drawn and not kept, each once
abbrev pub HasOpen : View → List ℕ → Type 0
HasOpen v blocks = (x : ℕ) → times x v.kept + times x blocks ≡ times x v.drawn

-- the pass has kept the blocks besides, and nothing else of it has changed
pub record Keeps (v w : View) (blocks : List ℕ) : Type 0 where
  pub weight : w.weight ≡ v.weight
  pub done : w.done ≡ v.done
  pub drawn : w.drawn ≡ v.drawn
  pub missed : w.missed ≡ v.missed
  pub kept : (x : ℕ) → times x w.kept ≡ times x v.kept + times x blocks

-- what a put leaves of the pass and of the share: the blocks are in the book; or another pass held the turn, which a pass with
-- all the weight never meets; or memory ran out
abbrev pub PutDone : Put → View → View → BookValue → BookValue → Type 0
PutDone Kept v w s t = Keeps v w s.blocks × (t.blocks ≡ [])
PutDone Held v w s t = (w ≡ missing v) × (v.weight < v.plan.passes) × (t ≡ s)
PutDone Memory v w s t = (w ≡ v) × IsSame t s
