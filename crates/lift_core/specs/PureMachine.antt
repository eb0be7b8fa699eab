-- The pure machine of one norm: passes draw the numbers of blocks, put them into one book, and the book is closed.
use Rattle.std.specs.Prelude.{◌≡◌, ℕ, ◌+◌, ◌*◌, ◌<◌, ◌≤◌, List, [], ◌∷◌, ◌++◌, ℤ, Bool, true, false, length, take, slice_index_or, slice_set, replicate, ◌↔◌, Result, Ok, Err}
use Rattle.std.specs.List.{Contains}
use Rattle.int_vector.specs.Operations.{add}
use Rattle.lift_core.specs.Systems.{LinearSystem}
use Rattle.lift_core.specs.Lists.{IsListOf}
use Rattle.lift_core.specs.Stages.{norm_cmp, stage_norm, IsPair}
use Rattle.lift_core.specs.PairSums.{HasSum, IsIrreducible}
use Rattle.lift_core.specs.declared.machine.Event.{Event}
use Rattle.lift_core.specs.declared.machine.Event.TheVariants.{Draw, Put, Close}
use Rattle.lift_core.specs.declared.machine.StepEnd.{StepEnd}
use Rattle.lift_core.specs.declared.machine.StepEnd.TheVariants.{NotAllowed, Memory}

-- the number of blocks, the next number, the numbers that each pass holds, those in the book, and whether it is closed
pub record CoreState : Type 0 where
  pub blocks : ℕ
  pub next : ℕ
  pub held : List (List ℕ)
  pub book : List ℕ
  pub closed : Bool

-- before the first event
abbrev pub core_start : ℕ → ℕ → CoreState
core_start blocks passes =
    record { blocks = blocks; next = 0; held = replicate passes []; book = []; closed = false }

-- what the pass holds
abbrev pub held_at : CoreState → ℕ → List ℕ
held_at s p = slice_index_or s.held p []

-- each number of a block is in the book
abbrev pub HasAllBlocks : List ℕ → ℕ → Type 0
HasAllBlocks book blocks = (n : ℕ) → n < blocks → Contains book n

-- whether the event may come
abbrev pub MayCome : CoreState → Event → Type 0
MayCome s (Draw p) = (s.closed ≡ false) × (p < length s.held) × (s.next < s.blocks)
MayCome s (Put p) = (s.closed ≡ false) × (p < length s.held)
MayCome s Close = (s.closed ≡ false) × HasAllBlocks s.book s.blocks

abbrev pub after_draw : CoreState → ℕ → CoreState
after_draw s p =
    record s { next = s.next + 1; held = slice_set s.held p (held_at s p ++ (s.next ∷ [])) }

abbrev pub after_put : CoreState → ℕ → CoreState
after_put s p = record s { held = slice_set s.held p []; book = s.book ++ held_at s p }

-- the state after the event
abbrev pub after : CoreState → Event → CoreState
after s (Draw p) = after_draw s p
after s (Put p) = after_put s p
after s Close = record s { closed = true }

-- the events, each allowed where it comes, lead from one state to the other
pub data Runs : CoreState → List Event → CoreState → Type 0 where
  no_event : {s : CoreState} → Runs s [] s
  one_event : {s t : CoreState} {e : Event} {es : List Event} → MayCome s e → Runs (after s e) es t
      → Runs s (e ∷ es) t

-- ---- what the calls answer
-- one event is done, or nothing has changed
abbrev pub Steps : CoreState → Event → CoreState → Result (Unit {0}) StepEnd → Type 0
Steps s e t (Ok u) = MayCome s e × (t ≡ after s e)
Steps s e t (Err NotAllowed) = (MayCome s e → ⊥) × (t ≡ s)
Steps s e t (Err Memory) = t ≡ s

-- the event is not allowed; running out of memory tells nothing of it
abbrev pub IsRefused : CoreState → Event → StepEnd → Type 0
IsRefused s e NotAllowed = MayCome s e → ⊥
IsRefused s e Memory = Unit {0}

-- the events before place i are done, and the one there is refused
pub record StopsAt (s : CoreState) (es : List Event) (t : CoreState) (i : ℕ)
    (end : StepEnd) : Type 0 where
  pub inside : i < length es
  pub before : Runs s (take i es) t
  pub refused : IsRefused t (slice_index_or es i Close) end

-- all events are done, or those before the first that is refused
abbrev pub RunsOr : CoreState → List Event → CoreState → Result (Unit {0}) (ℕ × StepEnd) → Type 0
RunsOr s es t (Ok u) = Runs s es t
RunsOr s es t (Err (i, end)) = StopsAt s es t i end

-- ---- blocks of pairs
-- the pairs of norm e, each at one place or more, which is its number
abbrev pub AreNumbered : List (List ℤ) → ℕ → List (List ℤ × List ℤ) → Type 0
AreNumbered listed e pairs =
    (f g : List ℤ) → Contains pairs (f, g) ↔ (IsPair listed f g × (stage_norm f + stage_norm g ≡ e))

-- z is the irreducible sum of a pair of the block: block b has the pairs from number 256 b on, 256 of them or the rest
pub record IsSumInBlock (S : LinearSystem) (listed : List (List ℤ)) (pairs : List (List ℤ × List ℤ))
    (block : ℕ) (z : List ℤ) : Type 0 where
  pub number : ℕ
  pub from : 256 * block ≤ number
  pub before : number < 256 * block + 256
  pub inside : number < length pairs
  pub first : List ℤ
  pub second : List ℤ
  pub pair : slice_index_or pairs number (first, second) ≡ (first, second)
  pub sum : HasSum S first second
  pub is : z ≡ add first second
  pub irreducible : IsIrreducible listed z

-- the ascending list of the irreducible sums of the pairs in the blocks
abbrev pub IsSumsOf : LinearSystem → List (List ℤ) → List (List ℤ × List ℤ) → List ℕ → List (List ℤ)
    → Type 0
IsSumsOf S listed pairs blocks rows =
    IsListOf norm_cmp (λ z. (b : ℕ) × Contains blocks b × IsSumInBlock S listed pairs b z) rows
