-- What the fields of a book, a share, a pass and a board keep.
use Rattle.std.specs.Prelude.{◌≡◌, ℕ, ◌+◌, ◌<◌, ◌≤◌, ◌^◌, List, [], ◌∷◌, Bool, true, false, Option, Some, None, is_some}
use Rattle.lift_core.specs.ToolSystems.{width}
use Rattle.lift_core.specs.Times.{times}
use Rattle.row_pool.specs.Rows.{PoolValue}
use Rattle.stage_store.specs.Stage.{StageValue}
use Rattle.atomic_table.specs.Seated.{TableId}
use Rattle.atomic_table.specs.Table.{Me}
use Rattle.norm_board.specs.Blocks.{Sums, blocks_of, pair_count}
use Rattle.norm_board.specs.Books.{BookValue}
use Rattle.norm_board.specs.Rule.{S}
use Rattle.norm_board.specs.Inside.NumberRuns.{RunsValue}
use Rattle.norm_board.specs.declared.rule.Plan.{Plan}
use Rattle.norm_board.specs.declared.rule.View.{View}

-- where it has room, 256 rows and one run are free
pub record BookOk (s : StageValue) (norm : ℕ) (blocks : RunsValue) (rows : PoolValue) (room : Bool)
    : Type 0 where
  pub small : norm ≤ 9223372036854775807
  pub sums : Sums s norm blocks.numbers rows.rows
  pub width_is : rows.width ≡ width s.system.equations + 1
  pub narrow : rows.width ≤ 130
  pub spare : room ≡ true → 256 ≤ rows.spare
  pub run : room ≡ true → 1 ≤ blocks.spare

-- room for one sum, where it is there, has the right length
abbrev pub HasLength : ℕ → Option ℕ → Type 0
HasLength width scratch = (n : ℕ) → scratch ≡ Some n → n ≡ width

-- where a share has room for a block, the room for one sum is there
pub record ShareOk (stage : StageValue) (book : BookValue) (scratch : Option ℕ) : Type 0 where
  pub stage_is : book.stage ≡ stage
  pub scratch_is : HasLength (width stage.system.equations + 1) scratch
  pub there : book.room ≡ true → is_some scratch ≡ true

-- while it holds the turn, a pass has the empty slot in hand
abbrev pub hand : Bool → List (ℕ × S)
hand true = (0, None) ∷ []
hand false = []

pub record PassOk (weight : ℕ) (done holding : Bool) (me : Me S View) : Type 0 where
  pub weight_is : weight ≡ me.0.weight
  pub done_is : done ≡ me.0.done
  pub holding_is : holding ≡ me.0.holding
  pub live : 0 < weight
  pub hand_is : me.1 ≡ hand holding
  pub found_is : holding ≡ false → me.0.found ≡ []
  pub kept : (x : ℕ) → times x me.0.kept ≤ times x me.0.drawn

pub record BoardOk (key plan : Plan) (stage : StageValue) (table : TableId) (pairs : ℕ)
    : Type 0 where
  pub plan_is : key ≡ plan
  pub few : plan.passes ≤ 32
  pub small : plan.norm ≤ 9223372036854775807
  pub stage_is : plan.stage.value ≡ stage
  pub pairs_is : pairs ≡ pair_count stage plan.norm
  pub pairs_most : pairs ≤ 2 ^ 42
  pub blocks_is : plan.blocks ≡ blocks_of (pair_count stage plan.norm)
  pub wide : table.words ≡ 2
  pub deep : table.slots ≡ 1
