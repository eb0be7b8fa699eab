-- A book as clauses see it; a share and a turn are seen so too.
use Rattle.std.specs.Prelude.{◌≡◌, ℕ, ℤ, List, Bool}
use Rattle.stage_store.specs.Stage.{StageValue}

-- the stage and the norm, the blocks and their irreducible sums, and whether there is room for one block more
pub record BookValue : Type 0 where
  pub stage : StageValue
  pub norm : ℕ
  pub blocks : List ℕ
  pub rows : List (List ℤ)
  pub room : Bool

-- both speak of one stage and one norm
pub record IsAlike (a b : BookValue) : Type 0 where
  pub stage : a.stage ≡ b.stage
  pub norm : a.norm ≡ b.norm

-- all but the room is the same
pub record IsSame (a b : BookValue) : Type 0 where
  pub stage : a.stage ≡ b.stage
  pub norm : a.norm ≡ b.norm
  pub blocks : a.blocks ≡ b.blocks
  pub rows : a.rows ≡ b.rows
