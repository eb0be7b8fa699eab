-- The board's rule, and what each step does to a pass.
--
-- The board has a counter (word 0), a turn (word 1, which is 1 while a pass holds it and 0 else), and one slot, where the
-- book lies while nobody holds the turn. Each worker has a pass. A pass has a weight, and the weights of all passes add up to
-- the board's number of passes. It has drawn some blocks; those that it has put into the book are kept, the others open.
use Rattle.std.specs.Prelude.{◌≡◌, ℕ, ◌+◌, ◌-◌, ◌<◌, ◌≤◌, ◌^◌, List, [], ◌∷◌, ◌++◌, length, min, slice_index, true, false, ◌||◌, cond, eqb, filter, Option, Some}
use mathlib.Core.Option.{some}
use mathlib.Core.Option as maybe
use lib.ListN.{get_elem?}
use Rattle.atomic_table.specs.Table.{State}
use Rattle.lift_core.specs.Times.{one_if, times, total_of, once_below}
use Rattle.norm_board.specs.Books.{BookValue}
use Rattle.norm_board.specs.declared.rule.Plan.{Plan}
use Rattle.norm_board.specs.declared.rule.View.{View}

-- what lies in the slot: a book, or nothing while a pass has it
abbrev pub S : Type 0
S = Option BookValue

-- ---- what is added up over all passes
abbrev pub weight_of : View → ℕ
weight_of v = v.weight

-- the weight of a pass that is not done
abbrev pub open_weight : View → ℕ
open_weight v = cond v.done 0 v.weight

abbrev pub holding_of : View → ℕ
holding_of v = one_if v.holding

abbrev pub drawn_of : ℕ → View → ℕ
drawn_of x v = times x v.drawn

abbrev pub kept_of : ℕ → View → ℕ
kept_of x v = times x v.kept

-- ---- the rule
-- a pass of no weight knows and holds nothing
pub record Spent (v : View) : Type 0 where
  pub done : v.done ≡ true
  pub holding : v.holding ≡ false
  pub found : v.found ≡ []
  pub drawn : v.drawn ≡ []
  pub kept : v.kept ≡ []
  pub missed : v.missed ≡ 0

-- what holds of each pass, where the counter is n: kept blocks were drawn, each once; a pass that is done has seen the
-- counter reach the number of blocks; and a pass that is not spent carries the board's own plan
pub record HoldsOfPass (p : Plan) (n : ℕ) (v : View) : Type 0 where
  pub kept : (x : ℕ) → times x v.kept ≤ times x v.drawn
  pub spent : v.weight ≡ 0 → Spent v
  pub late : 0 < v.weight → v.done ≡ true → p.blocks ≤ n
  pub plan : 0 < v.weight → v.plan ≡ p

-- the book is of the board's stage and norm
pub record IsBookOf (p : Plan) (b : BookValue) : Type 0 where
  pub stage : b.stage ≡ p.stage.value
  pub norm : b.norm ≡ p.norm

-- while nobody holds the turn, a book is at home, whose blocks are those kept
pub record Home (p : Plan) (homes : List (maybe.Option S)) (views : List View) : Type 0 where
  pub nobody : total_of holding_of views ≡ 0
  pub book : BookValue
  pub there : get_elem? homes 0 ≡ some (some (Some book))
  pub is_of : IsBookOf p book
  pub blocks : (x : ℕ) → times x book.blocks ≡ total_of (kept_of x) views

-- while the turn is held, one pass holds it, the slot is out, and the pass has found the blocks that are kept
pub record Away (homes : List (maybe.Option S)) (views : List View) : Type 0 where
  pub one : total_of holding_of views ≡ 1
  pub out : get_elem? homes 0 ≡ some maybe.none
  pub blocks : (i : ℕ) (v : View) → get_elem? views i ≡ some v → v.holding ≡ true
      → (x : ℕ) → times x v.found ≡ total_of (kept_of x) views

-- the turn is 0 and the book at home, or 1 and the book out
pub record Turned (p : Plan) (word : ℕ) (homes : List (maybe.Option S)) (views : List View)
    : Type 0 where
  pub bit : word < 2
  pub home : word ≡ 0 → Home p homes views
  pub away : word ≡ 1 → Away homes views

-- the rule, between any two steps: each number below the counter and the number of blocks was drawn once by one pass, and no
-- other number; the weights add up; and the counter never comes so far that it wraps
pub record Ruled (p : Plan) (s : State S View) : Type 0 where
  pub wide : length s.words ≡ 2
  pub fits : p.blocks + p.passes < 2 ^ 64
  pub once : (x : ℕ)
      → total_of (drawn_of x) s.views ≡ once_below x (min (slice_index s.words 0) p.blocks)
  pub weights : total_of weight_of s.views ≡ p.passes
  pub room : slice_index s.words 0 + total_of open_weight s.views ≤ p.blocks + p.passes
  pub each : (i : ℕ) (v : View) → get_elem? s.views i ≡ some v
      → HoldsOfPass p (slice_index s.words 0) v
  pub turn : Turned p (slice_index s.words 1) s.homes s.views

-- ---- what the steps do to a pass
-- the one pass of a new board
abbrev pub starting : Plan → View
starting p = record {
  weight = p.passes;
  done = false;
  holding = false;
  found = [];
  drawn = [];
  kept = [];
  missed = 0;
  plan = p;
}

-- it has drawn block n
abbrev pub gained : View → ℕ → View
gained v n = record v { drawn = v.drawn ++ n ∷ [] }

-- it has found no block left
abbrev pub finished : View → View
finished v = record v { done = true }

-- it has given away a part of its weight, and that part
abbrev pub shrunk : View → View
shrunk v = record v { weight = v.weight - 1 }

abbrev pub single : View → View
single v = record {
  weight = 1;
  done = v.done;
  holding = false;
  found = [];
  drawn = [];
  kept = [];
  missed = 0;
  plan = v.plan;
}

-- two passes are one
abbrev pub one_pass : View → View → View
one_pass v w = record {
  weight = v.weight + w.weight;
  done = v.done || w.done;
  holding = v.holding;
  found = v.found;
  drawn = v.drawn ++ w.drawn;
  kept = v.kept ++ w.kept;
  missed = v.missed + w.missed;
  plan = v.plan;
}

-- it holds the turn, and found these blocks in the book
abbrev pub taking : View → List ℕ → View
taking v found = record v { holding = true; found = found }

-- another pass held the turn
abbrev pub missing : View → View
missing v = record v { missed = v.missed + 1 }

-- the blocks that are not among the found ones
abbrev pub past : List ℕ → List ℕ → List ℕ
past found blocks = filter (λ x. eqb (times x found) 0) blocks

-- it has given the turn back, with a book of these blocks: those that it had not found there it has kept
abbrev pub giving : View → List ℕ → View
giving v blocks = record v { holding = false; found = []; kept = v.kept ++ past v.found blocks }

-- the book's blocks are the found ones, and past them some that the pass has drawn and not kept, each once
pub record MayGive (v : View) (blocks : List ℕ) : Type 0 where
  pub found : (x : ℕ) → times x blocks ≡ times x v.found + times x (past v.found blocks)
  pub drawn : (x : ℕ) → times x v.kept + times x (past v.found blocks) ≤ times x v.drawn

-- what a pass that takes the turn knows of the book: none of its open blocks is there, and all its kept ones are
pub record KnowsBook (v : View) (b : BookValue) : Type 0 where
  pub is_of : IsBookOf v.plan b
  pub apart : (x : ℕ) → times x b.blocks + times x v.drawn ≤ 1 + times x v.kept
  pub kept : (x : ℕ) → times x v.kept ≤ times x b.blocks
  -- a pass with all the weight knows the whole
  pub whole : v.weight ≡ v.plan.passes → (x : ℕ) → times x b.blocks ≡ times x v.kept
  pub all : v.weight ≡ v.plan.passes → v.done ≡ true → (x : ℕ)
      → times x v.drawn ≡ once_below x v.plan.blocks
