-- A pass and a board as clauses see them.
use Rattle.std.specs.Prelude.{◌≡◌}
use Rattle.atomic_table.specs.Seated.{TableId}
use Rattle.norm_board.specs.declared.rule.Plan.{Plan}
use Rattle.norm_board.specs.declared.rule.View.{View}

-- the table that the pass steps on, and what the pass knows
pub record PassValue : Type 0 where
  pub table : TableId
  pub view : View

-- the table, and the board's fixed data
pub record BoardValue : Type 0 where
  pub table : TableId
  pub plan : Plan

abbrev pub view : PassValue → View
view p = p.view

-- the pass is one of the board's
pub record Belongs (b : BoardValue) (p : PassValue) : Type 0 where
  pub table : p.table ≡ b.table
  pub plan : p.view.plan ≡ b.plan
