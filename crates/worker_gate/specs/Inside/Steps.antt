-- What a put leaves of a pass.
use Rattle.std.specs.Prelude.{◌≡◌, ℕ, ◌≤◌}
use Rattle.lift_core.specs.Times.{times}
use Rattle.norm_board.specs.declared.rule.View.{View}

-- only the kept blocks and the missed number have changed, and none of them fell
pub record LeavesPass (v w : View) : Type 0 where
  pub weight : w.weight ≡ v.weight
  pub done : w.done ≡ v.done
  pub drawn : w.drawn ≡ v.drawn
  pub kept : (x : ℕ) → times x v.kept ≤ times x w.kept
  pub missed : v.missed ≤ w.missed
