-- What each step on the table tells the pass that makes it, and the view of a pass that is spent.
use Rattle.std.specs.Prelude.{◌≡◌, ◌≢◌, ℕ, ◌<◌, ◌≤◌, [], ◌∷◌, true, false, Some}
use Rattle.atomic_table.specs.Table.{Me, Step}
use Rattle.lift_core.specs.declared.Tool.TheVariants.{Hilbert}
use Rattle.lift_core.specs.Times.{times, once_below, AllUnder}
use Rattle.stage_store.specs.Stage.{StageValue}
use Rattle.norm_board.specs.Books.{BookValue}
use Rattle.norm_board.specs.Rule.{S, gained, finished, taking, missing, giving, KnowsBook}
use Rattle.norm_board.specs.declared.rule.Plan.{Plan}
use Rattle.norm_board.specs.declared.rule.View.{View}

abbrev pub drew : Step S → Me S View → ℕ → Me S View → Type 0
drew st m n m' =
    (m'.1 ≡ m.1)
    × (n < m.0.plan.blocks → (m'.0 ≡ gained m.0 n) × AllUnder m.0.drawn n)
    × (m.0.plan.blocks ≤ n → m'.0 ≡ finished m.0)

-- a look at the board by a pass changes nothing, and tells that it has drawn no number twice
abbrev pub looked : Step S → Me S View → ℕ → Me S View → Type 0
looked st m n m' =
    (m' ≡ m)
    × (m.0.weight ≤ m.0.plan.passes)
    × ((x : ℕ) → times x m.0.drawn ≤ once_below x m.0.plan.blocks)

abbrev pub took : Step S → Me S View → ℕ → Me S View → Type 0
took st m n m' =
    (n ≡ 0 → (b : BookValue) × (m' ≡ (taking m.0 b.blocks, (0, Some b) ∷ m.1)) × KnowsBook m.0 b)
    × (n ≢ 0 → (m' ≡ (missing m.0, m.1)) × (m.0.weight < m.0.plan.passes))

abbrev pub gave : Step S → Me S View → ℕ → Me S View → Type 0
gave st m n m' = (b : BookValue) → m.1 ≡ (0, Some b) ∷ [] → m' ≡ (giving m.0 b.blocks, [])

-- a view needs a plan: that of a spent one has no blocks
abbrev pub no_stage : StageValue
no_stage = record {
  system = record {
    tool = Hilbert;
    n = 0;
    equations = record { signs = []; caps = []; rows = [] };
  };
  number = 0;
  norm = 0;
  before = 0;
  listed = [];
  waiting = [];
}

abbrev pub no_plan : Plan
no_plan = record {
  blocks = 0;
  passes = 0;
  norm = 0;
  stage = record {
    marker = record {};
    value = no_stage;
  };
}

abbrev pub spent_view : View
spent_view = record {
  weight = 0;
  done = true;
  holding = false;
  found = [];
  drawn = [];
  kept = [];
  missed = 0;
  plan = no_plan;
}
