-- The numbers of the pairs of some norms in a row.
use Rattle.std.specs.Prelude.{◌≡◌, ℕ, ◌+◌, ◌-◌, ◌*◌, ◌<◌, ◌≤◌, ◌^◌, ◌==◌, List, length, cond, slice_index_or}
use Rattle.std.specs.List.{sum_by}
use Rattle.stage_store.specs.Classes.{ClassValue, part_size, ids_at}
use Rattle.stage_store.specs.declared.tally.Tally.{Tally}

-- what is noted at a place
abbrev pub noted : Tally → ℕ → ℕ
noted t i = slice_index_or t.counts.items i 0

-- each norm that is counted has its place, and is in range
pub record IsInRange (t : Tally) : Type 0 where
  pub places : t.span ≤ length t.counts.items
  pub norms : t.base + t.span < 2 ^ 64

-- of each norm that is counted, the number of its pairs is noted
pub record IsTally (plus minus : List ClassValue) (t : Tally) : Type 0 where
  pub range : IsInRange t
  pub counts : (i : ℕ) → i < t.span → noted t i ≡ sum_by (λ c. part_size minus (t.base + i) c) plus

pub record IsClear (base : ℕ) (t : Tally) : Type 0 where
  pub base_is : t.base ≡ base
  pub nothing : (i : ℕ) → i < t.span → noted t i ≡ 0

-- the number at one place has risen
pub record HasRaised (old new : Tally) (place n : ℕ) : Type 0 where
  pub base_is : new.base ≡ old.base
  pub span : new.span ≤ old.span
  pub counts : (i : ℕ) → i < new.span → noted new i ≡ noted old i + cond (i == place) n 0

-- the pairs of a class with others are counted besides
pub record HasGained (old new : Tally) (others : List ClassValue) (c : ClassValue) : Type 0 where
  pub base_is : new.base ≡ old.base
  pub span : new.span ≤ old.span
  pub counts : (i : ℕ) → i < new.span
      → noted new i ≡ noted old i + length c.ids * length (ids_at others ((old.base + i) - c.norm))

-- so many pairs are noted of a norm
pub record IsNoted (t : Tally) (n pairs : ℕ) : Type 0 where
  pub place : ℕ
  pub inside : place < t.span
  pub norm_is : t.base + place ≡ n
  pub pairs_are : pairs ≡ noted t place

-- pairs are noted of norm e, and none of the norms between d and e
pub record IsNextNoted (t : Tally) (d e : ℕ) : Type 0 where
  pub above : d < e
  pub from : t.base ≤ d + 1
  pub to : e < t.base + t.span
  pub some : 0 < noted t (e - t.base)
  pub none : (n : ℕ) → d < n → n < e → noted t (n - t.base) ≡ 0
