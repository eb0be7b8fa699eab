-- What `publish` makes of a stage, and what it answers.
use Rattle.std.specs.Prelude.{◌≡◌, ℕ, ◌+◌, ◌≤◌, ◌<◌, ◌⊎◌, List, ◌++◌, drop, ℤ, length, Result, Ok, Err}
use Rattle.lift_core.specs.ToolSystems.{width}
use Rattle.lift_core.specs.Lists.{IsListOf}
use Rattle.std.specs.List.{AllByRecursion}
use Rattle.lift_core.specs.Stages.{norm_cmp, stage_norm, has_positive_last, has_negative_last}
use Rattle.lift_core.specs.PairSums.{IsNewSum}
use Rattle.lift_core.specs.Walks.{IsGrown, still_waiting, used_up_to}
use Rattle.stage_store.specs.Stage.{StageValue, used_of}
use Rattle.stage_store.specs.Classes.{places, pairs_of}
use Rattle.stage_store.specs.declared.stage.Closed.{Closed}
use Rattle.stage_store.specs.declared.stage.Growth.{Growth}
use Rattle.stage_store.specs.declared.stage.PublishEnd.{PublishEnd}
use Rattle.stage_store.specs.declared.stage.PublishEnd.TheVariants.{Rows, Memory}

-- the ascending list of the irreducible sums of norm e
pub record IsClosedNorm (s : StageValue) (e : ℕ) (c : Closed) : Type 0 where
  pub norm_is : c.norm ≡ e
  pub width_is : c.rows.width ≡ width s.system.equations + 1
  pub sums : IsListOf norm_cmp (IsNewSum s.system.equations s.listed e) c.rows.rows

-- norm e is closed: its rows are listed and wait no longer, and its pairs are used
pub record IsPublished (s : StageValue) (e : ℕ) (t : StageValue) : Type 0 where
  pub system : t.system ≡ s.system
  pub number : t.number ≡ s.number
  pub norm : t.norm ≡ e
  pub before : t.before ≡ s.before
  pub listed : IsGrown s.system.equations s.listed s.waiting e t.listed
  pub waiting : t.waiting ≡ still_waiting e s.waiting
  pub used : used_of t ≡ used_up_to (used_of s) s.listed s.norm e

-- the grown list is longer than the limit, and has so many rows
pub record IsTooLong (s : StageValue) (e limit count : ℕ) : Type 0 where
  pub grown : List (List ℤ)
  pub listed : IsGrown s.system.equations s.listed s.waiting e grown
  pub length_is : count ≡ length grown
  pub above : limit < count

abbrev pub IsPublish : StageValue → ℕ → ℕ → StageValue → Result (Unit {0}) PublishEnd → Type 0
IsPublish s e limit t (Ok u) = IsPublished s e t × (length t.listed ≤ limit)
IsPublish s e limit t (Err (Rows count)) = (t ≡ s) × IsTooLong s e limit count
IsPublish s e limit t (Err Memory) = t ≡ s

-- what a norm adds: its rows, their classes, the number of waiting rows among them, and the number of its pairs
pub record IsGrowth (s : StageValue) (e limit : ℕ) (g : Growth) : Type 0 where
  pub width_is : g.rows.width ≡ width s.system.equations + 1
  pub grown : IsGrown s.system.equations s.listed s.waiting e (s.listed ++ g.rows.rows)
  pub norms : AllByRecursion (λ z. stage_norm z ≡ e) g.rows.rows
  pub within : length s.listed + length g.rows.rows ≤ limit
  pub plus_norm : g.plus.norm ≡ e
  pub plus_ids : g.plus.ids ≡ places has_positive_last (length s.listed) g.rows.rows
  pub minus_norm : g.minus.norm ≡ e
  pub minus_ids : g.minus.ids ≡ places has_negative_last (length s.listed) g.rows.rows
  pub taken_inside : g.taken ≤ length s.waiting
  pub still : drop g.taken s.waiting ≡ still_waiting e s.waiting
  pub pairs_are : g.pairs ≡ length (pairs_of s.listed e)

abbrev pub GrowsOr : StageValue → ℕ → ℕ → Result Growth PublishEnd → Type 0
GrowsOr s e limit (Ok g) = IsGrowth s e limit g
GrowsOr s e limit (Err (Rows count)) = IsTooLong s e limit count
GrowsOr s e limit (Err Memory) = Unit {0}

-- fewer rows wait, or more pairs are used
abbrev pub IsFurther : StageValue → StageValue → Type 0
IsFurther s t = (length t.waiting < length s.waiting) ⊎ (used_of s < used_of t)
