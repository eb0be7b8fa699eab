-- Worker records before and after their threads, and what their passes make together.
use Rattle.std.specs.Prelude.{◌≡◌, ℕ, ◌≤◌, ◌<◌, List, [], true, false, length, slice_index_or}
use Rattle.norm_board.specs.declared.board.Board.{Board}
use Rattle.norm_board.specs.Seen.{view}
use Rattle.worker_gate.specs.declared.record.Worker.{Worker}
use Rattle.worker_gate.specs.Work.{IsWorker}

-- it can begin, or go on
abbrev pub IsReady : Board → Worker → Type 0
IsReady b w = IsWorker b w.pass w.share

-- its share has no block
abbrev pub IsEmpty : Worker → Type 0
IsEmpty w = w.share.blocks ≡ []

abbrev pub worker_weight : Worker → ℕ
worker_weight w = (view w.pass).weight

abbrev pub missed_of : Worker → ℕ
missed_of w = (view w.pass).missed

-- what its part has left of it
pub record HasEnded (b : Board) (w x : Worker) : Type 0 where
  pub still : IsReady b x
  pub weight : worker_weight x ≡ worker_weight w
  pub done : x.failed ≡ false → (view x.pass).done ≡ true
  pub missed : missed_of w ≤ missed_of x
  pub empty : x.failed ≡ false → missed_of x ≡ missed_of w → IsEmpty x

-- each worker of ys is what its thread left of the one of xs
abbrev pub AllEnded : Board → List Worker → List Worker → Type 0
AllEnded b xs ys =
    (i : ℕ) (d : Worker)
    → i < length xs
    → HasEnded b (slice_index_or xs i d) (slice_index_or ys i d)

-- it can be merged with the others
pub record MayMerge (b : Board) (w : Worker) : Type 0 where
  pub still : IsReady b w
  pub done : w.failed ≡ false → (view w.pass).done ≡ true

-- it has found memory
abbrev pub IsFine : Worker → Type 0
IsFine w = w.failed ≡ false
