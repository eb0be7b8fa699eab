-- Between any two steps the board shows a state of the pure machine, and each step is an event of that machine or shows the
-- same state.
use Rattle.std.specs.Prelude.{◌≡◌, ◌≢◌, ℕ, suc, ◌+◌, ◌<◌, ◌≤◌, List, [], ◌∷◌, ◌++◌, length, min, slice_index, slice_set, true, false, cond, eqb, Some}
use mathlib.Core.Option.{some}
use lib.ListN.{get_elem?}
use Rattle.atomic_table.specs.Table.{State, Me, keeps, takes, gives, stepped, opening}
use Rattle.lift_core.specs.Times.{times, total_of, once_below}
use Rattle.lift_core.specs.PureMachine.{CoreState, core_start, MayCome, after_draw, after_put, Runs}
use Rattle.lift_core.specs.declared.machine.Event.{Event}
use Rattle.lift_core.specs.declared.machine.Event.TheVariants.{Draw, Put, Close}
use Rattle.norm_board.specs.Books.{BookValue}
use Rattle.norm_board.specs.Rule.{S, kept_of, starting, gained, finished, shrunk, single, one_pass, taking, missing, giving, past, MayGive, Ruled}
use Rattle.norm_board.specs.Inside.Plays.{spent_view}
use Rattle.norm_board.specs.declared.rule.Plan.{Plan}
use Rattle.norm_board.specs.declared.rule.View.{View}

-- how often the machine's passes that belong to the board's pass i hold x
abbrev pub held_by : ℕ → ℕ → List ℕ → List (List ℕ) → ℕ
held_by i x [] hs = 0
held_by i x (o ∷ os) [] = 0
held_by i x (o ∷ os) (h ∷ hs) = cond (eqb i o) (times x h) 0 + held_by i x os hs

-- the board shows the state c: each pass of c belongs to a pass of the board, as many as its weight is, and what they hold is
-- what that pass has open; the book of c has the kept blocks of all passes
pub record Shows (p : Plan) (s : State S View) (c : CoreState) : Type 0 where
  pub blocks : c.blocks ≡ p.blocks
  pub passes : length c.held ≡ p.passes
  pub next : c.next ≡ min (slice_index s.words 0) p.blocks
  pub going : c.closed ≡ false
  -- for each pass of c the pass of the board that it belongs to
  pub owner : List ℕ
  pub each : length owner ≡ length c.held
  pub book : (x : ℕ) → times x c.book ≡ total_of (kept_of x) s.views
  pub live : (i : ℕ) → 0 < times i owner → (v : View) × (get_elem? s.views i ≡ some v)
  pub weights : (i : ℕ) (v : View) → get_elem? s.views i ≡ some v → times i owner ≡ v.weight
  pub held : (i : ℕ) (v : View) → get_elem? s.views i ≡ some v
      → (x : ℕ) → held_by i x owner c.held + times x v.kept ≡ times x v.drawn

-- a pass of the board, in a state that keeps the rule and shows c
pub record Showing (p : Plan) (s : State S View) (c : CoreState) (id : ℕ) (v : View) : Type 0 where
  pub rule : Ruled p s
  pub shows : Shows p s c
  pub there : get_elem? s.views id ≡ some v

-- the counter of the state
abbrev pub counter : State S View → ℕ
counter s = slice_index s.words 0

-- ---- the start
-- a new board shows the machine before its first event
abbrev pub StartShows : Type 0
StartShows =
    (p : Plan) (b : BookValue) → b.blocks ≡ []
    → Shows p (opening (0 ∷ 0 ∷ []) (Some b ∷ []) (starting p)) (core_start p.blocks p.passes)

-- ---- draws
-- a draw that gives a block is a draw of the machine
abbrev pub DrawsShow : Type 0
DrawsShow =
    (p : Plan) (s : State S View) (c : CoreState) (id : ℕ) (me : Me S View) → Showing p s c id me.0
    → 0 < me.0.weight → counter s < p.blocks
    → (q : ℕ) × MayCome c (Draw q)
    × Shows p (stepped s 0 (counter s + 1) id me.1 (gained me.0 (counter s)) keeps) (after_draw c q)

-- a draw that finds no block left shows the same state
abbrev pub LateDrawsShow : Type 0
LateDrawsShow =
    (p : Plan) (s : State S View) (c : CoreState) (id : ℕ) (me : Me S View) → Showing p s c id me.0
    → p.blocks ≤ counter s
    → Shows p (stepped s 0 (counter s + 1) id me.1 (finished me.0) keeps) c

-- ---- the turn
-- taking the turn shows the same state, and so does missing it
abbrev pub TakesShow : Type 0
TakesShow =
    (p : Plan) (s : State S View) (c : CoreState) (id : ℕ) (me : Me S View) (b : BookValue)
    → Showing p s c id me.0
    → Shows p (stepped s 1 1 id me.1 (taking me.0 b.blocks) (takes 0 (Some b))) c
    × Shows p (stepped s 1 1 id me.1 (missing me.0) keeps) c

-- giving the turn back with all open blocks of a pass of weight 1 is a put of the machine
abbrev pub GivesShow : Type 0
GivesShow =
    (p : Plan) (s : State S View) (c : CoreState) (id : ℕ) (v : View) (b : BookValue)
    → Showing p s c id v
    → v.weight ≡ 1 → MayGive v b.blocks
    → ((x : ℕ) → times x v.kept + times x (past v.found b.blocks) ≡ times x v.drawn)
    → (q : ℕ) × MayCome c (Put q)
    × Shows p (stepped s 1 0 id ((0, Some b) ∷ []) (giving v b.blocks) gives) (after_put c q)

-- giving it back with the book as it was shows the same state
abbrev pub GivesBackShow : Type 0
GivesBackShow =
    (p : Plan) (s : State S View) (c : CoreState) (id : ℕ) (v : View) (b : BookValue)
    → Showing p s c id v
    → ((x : ℕ) → times x (past v.found b.blocks) ≡ 0)
    → Shows p (stepped s 1 0 id ((0, Some b) ∷ []) (giving v b.blocks) gives) c

-- ---- passes
-- cutting a pass that has drawn nothing shows the same state
abbrev pub SplitsShow : Type 0
SplitsShow =
    (p : Plan) (s : State S View) (c : CoreState) (id : ℕ) (v : View)
    → Showing p s c id v
    → 2 ≤ v.weight
    → v.drawn ≡ []
    → Shows p (record {
      words = s.words;
      homes = s.homes;
      views = slice_set s.views id (shrunk v) ++ single v ∷ [];
    }) c

-- joining two passes shows the same state
abbrev pub JoinsShow : Type 0
JoinsShow =
    (p : Plan) (s : State S View) (c : CoreState) (id : ℕ) (v : View) (other : ℕ) (w : View)
    → Showing p s c id v
    → other ≢ id → get_elem? s.views other ≡ some w
    → Shows p (record {
      words = s.words;
      homes = s.homes;
      views = slice_set (slice_set s.views id (one_pass v w)) other spent_view;
    }) c

-- ---- the end
-- a put for each pass that holds blocks, from pass q on, and then the close
abbrev pub closing_events : ℕ → List (List ℕ) → List Event
closing_events q [] = Close ∷ []
closing_events q ([] ∷ hs) = closing_events (suc q) hs
closing_events q ((x ∷ h) ∷ hs) = Put q ∷ closing_events (suc q) hs

-- where one pass has all the weight and is done, closing is a put for each pass of the machine with open blocks, and then its
-- close; its book then has each block once
abbrev pub ClosesShow : Type 0
ClosesShow =
    (p : Plan) (s : State S View) (c : CoreState) (id : ℕ) (v : View) → Showing p s c id v
    → 0 < v.weight → v.weight ≡ p.passes → v.done ≡ true
    → (t : CoreState) × Runs c (closing_events 0 c.held) t × (t.closed ≡ true)
    × ((x : ℕ) → times x t.book ≡ once_below x p.blocks)
