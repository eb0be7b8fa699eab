-- The sieve: which pairs of listed rows may have an irreducible sum. What it says is one-sided: a pair that is kept may
-- have none, and one that is not kept has none.
use Rattle.std.specs.Prelude.{◌≡◌, ◌⊎◌, ℕ, ◌+◌, ◌*◌, ◌/◌, ◌<◌, ◌≤◌, List, [], ℤ, Bool, true, false, length, slice_index_or}
use Rattle.std.specs.List.{AllByRecursion}
use Rattle.lift_core.specs.Systems.{LinearSystem}
use Rattle.lift_core.specs.ToolSystems.{width}
use Rattle.lift_core.specs.Stages.{stage_norm, has_positive_last, has_negative_last}
use Rattle.int_vector.specs.Vectors.{largest}
use Rattle.stage_store.specs.Classes.{row_at}
use Rattle.std.specs.Int.{bit_at}
use Rattle.stage_store.specs.Lines.{Tell, HasBit}
use Rattle.stage_store.specs.Levels.{BarsLine, ReachesLine, AreTrue}
use Rattle.stage_store.specs.Found.{IsSumOf}
use Rattle.stage_store.specs.Reaches.{AreReaches}
use Rattle.stage_store.specs.declared.table.Group.{Group}
use Rattle.stage_store.specs.declared.room.Room.{Room}
use Rattle.stage_store.specs.declared.sieve.KeptPair.{KeptPair}
use Rattle.stage_store.specs.declared.table.Table.{Table}
use Rattle.stage_store.specs.declared.sieve.Sieve.{Sieve}
use Rattle.stage_store.specs.declared.shelves.Shelves.{Shelves}
use Rattle.stage_store.specs.Shelves.{IsKept}
use Rattle.stage_store.specs.Mirror.{place_in, IsMirror, IsWholeMirror}
use Rattle.stage_store.specs.declared.side.Side.{Side}
use Rattle.stage_store.specs.declared.side.Side.TheVariants.{Plus, Minus}

-- the pair of the rows at places i and j, the first on the side
abbrev pub pair_by : Side → ℕ → ℕ → ℕ → KeptPair
pair_by Plus n i j = record { norm = n; first = i; second = j }
pair_by Minus n i j = record { norm = n; first = j; second = i }

-- ---- what is passed over
-- the rows at places i and j have no irreducible sum
abbrev pub HasNoNewSum : LinearSystem → List (List ℤ) → ℕ → ℕ → Type 0
HasNoNewSum S listed i j = (z : List ℤ) → IsSumOf S listed (row_at listed i) (row_at listed j) z → ⊥

abbrev pub HasNoNewSumBy : Side → LinearSystem → List (List ℤ) → ℕ → ℕ → Type 0
HasNoNewSumBy Plus S listed i j = HasNoNewSum S listed i j
HasNoNewSumBy Minus S listed i j = HasNoNewSum S listed j i

-- the pair of the rows at places i and j is kept, or has no irreducible sum
abbrev pub IsSiftedBy : Side → LinearSystem → List (List ℤ) → Shelves → ℕ → ℕ → Type 0
IsSiftedBy side S listed shelves i j =
    IsKept shelves (pair_by side (stage_norm (row_at listed i) + stage_norm (row_at listed j)) i j)
    ⊎ HasNoNewSumBy side S listed i j

-- and so is the pair of their negatives, where the mirror has these
abbrev pub AreBothSifted : Side → LinearSystem → List (List ℤ) → Shelves → List ℕ → ℕ → ℕ → Type 0
AreBothSifted side S listed shelves mirror i j =
    IsSiftedBy side S listed shelves i j
    × (i < length mirror → j < length mirror
    → IsSiftedBy side S listed shelves (place_in mirror j) (place_in mirror i))

-- and so are the pairs of row i with the first n of the rows at places
abbrev pub AreSiftedBefore :
    Side → LinearSystem → List (List ℤ) → Shelves → List ℕ → ℕ → ℕ → List ℕ → Type 0
AreSiftedBefore side S listed shelves mirror i n js =
    (k : ℕ) → k < n
    → AreBothSifted side S listed shelves mirror i (slice_index_or js k 0)

abbrev pub AreSiftedBy :
    Side → LinearSystem → List (List ℤ) → Shelves → List ℕ → ℕ → List ℕ → Type 0
AreSiftedBy side S listed shelves mirror i js =
    AreSiftedBefore side S listed shelves mirror i (length js) js

-- so are those of row a of one table with the first a rows of the other, and with its own negative, which is row a there
pub record IsCoupleSifted (S : LinearSystem) (listed : List (List ℤ)) (shelves : Shelves)
    (mirror plus minus : List ℕ) (a : ℕ) : Type 0 where
  pub before : AreSiftedBefore Plus S listed shelves mirror (slice_index_or plus a 0) a minus
  pub own : IsSiftedBy Plus S listed shelves (slice_index_or plus a 0) (slice_index_or minus a 0)

-- the norms are in range
abbrev pub AreNormed : List (List ℤ) → Type 0
AreNormed listed = AllByRecursion (λ z. stage_norm z ≤ largest) listed

-- each row has so many entries
abbrev pub AreWide : ℕ → List (List ℤ) → Type 0
AreWide n listed = AllByRecursion (λ z. length z ≡ n) listed

-- P is true of the lines at the places
abbrev pub AreReads : (ℕ → Type 0) → ℕ → List ℕ → Type 0
AreReads P n places = (a : ℕ) → a < length places
    → (slice_index_or places a 0 < n) × P (slice_index_or places a 0)

-- ---- the tables
-- the norms of the rows of group a are from `least` to `most`
abbrev pub AreBetween : List (List ℤ) → List ℕ → ℕ → ℕ → ℕ → Type 0
AreBetween listed ids a least most = (r : ℕ) → r < 64 → 64 * a + r < length ids
    → (least ≤ stage_norm (row_at listed (slice_index_or ids (64 * a + r) 0)))
    × (stage_norm (row_at listed (slice_index_or ids (64 * a + r) 0)) ≤ most)

-- a group of lines tells of its 64 of the rows at the places
pub record IsGroup (S : LinearSystem) (listed : List (List ℤ)) (ids : List ℕ) (a : ℕ)
    (g : Group) : Type 0 where
  pub bars : Tell (BarsLine S listed) listed ids a g.bars
  pub reached : Tell ReachesLine listed ids a g.reached
  pub norms : AreBetween listed ids a g.least g.most

abbrev pub AreGroups : LinearSystem → List (List ℤ) → List ℕ → List Group → Type 0
AreGroups S listed ids groups = (a : ℕ) (d : Group) → a < length groups
    → IsGroup S listed ids a (slice_index_or groups a d)

-- each has so many lines of each kind
pub record IsSized (n : ℕ) (g : Group) : Type 0 where
  pub bars_count : length g.bars ≡ n
  pub reached_count : length g.reached ≡ n

abbrev pub AreSized : ℕ → List Group → Type 0
AreSized n groups = (a : ℕ) (d : Group) → a < length groups → IsSized n (slice_index_or groups a d)

-- a row that has a bit has one in a line that is read
abbrev pub IsDead : Group → List ℕ → List ℕ → ℕ → Type 0
IsDead g bar_reads reach_reads bits = (r : ℕ) → r < 64 → bit_at bits r ≡ 1
    → ((a : ℕ) × (a < length bar_reads) × HasBit g.bars (slice_index_or bar_reads a 0) r)
    ⊎ ((a : ℕ) × (a < length reach_reads) × HasBit g.reached (slice_index_or reach_reads a 0) r)

-- i is at some place of the list
abbrev pub HasPlace : List ℕ → ℕ → Type 0
HasPlace ids i = (k : ℕ) × (k < length ids) × (slice_index_or ids k 0 ≡ i)

-- a table of the listed rows at the places with P, at most n, with lines over each 64 of them
pub record IsTable (S : LinearSystem) (listed : List (List ℤ)) (P : ℕ → Type 0) (n : ℕ)
    (t : Table) : Type 0 where
  pub inside : (k : ℕ) → k < length t.ids.items
      → (slice_index_or t.ids.items k 0 < length listed) × P (slice_index_or t.ids.items k 0)
  pub whole : (i : ℕ) → i < length listed → P i → HasPlace t.ids.items i
  pub few : length t.ids.items ≤ n
  pub count : length t.groups.items ≡ (length t.ids.items + 63) / 64
  pub sized : AreSized (16 * width S) t.groups.items
  pub groups : AreGroups S listed t.ids.items t.groups.items

-- place i is before place n, and its row passes the test
abbrev pub IsBefore : List (List ℤ) → (List ℤ → Bool) → ℕ → ℕ → Type 0
IsBefore listed test n i = (i < n) × (test (row_at listed i) ≡ true)

-- the place of the negative of row i is before place n, and the row's last entry is below 0
abbrev pub IsTurnedBefore : List (List ℤ) → List ℕ → ℕ → ℕ → Type 0
IsTurnedBefore listed mirror n i = (place_in mirror i < n)
    × (has_negative_last (row_at listed i) ≡ true)

-- each pair of the first n rows is kept, or has no irreducible sum
abbrev pub AreSifted : LinearSystem → List (List ℤ) → ℕ → Shelves → Type 0
AreSifted S listed n shelves =
    (i j : ℕ) → i < n → j < n → has_positive_last (row_at listed i) ≡ true
    → has_negative_last (row_at listed j) ≡ true → IsSiftedBy Plus S listed shelves i j

-- the first n rows are sifted, but for pairs of norms that are not kept; those up to norm d may be closed
pub record IsSieveTo (S : LinearSystem) (listed : List (List ℤ)) (d n : ℕ)
    (v : Sieve) : Type 0 where
  pub plus_table : IsTable S listed (IsBefore listed has_positive_last n) n v.plus
  pub minus_table : IsTable S listed (IsBefore listed has_negative_last n) n v.minus
  pub shelves_are : length v.shelves.shelves.items ≡ 256
  pub closed : v.shelves.closed ≤ d
  pub reaches_are : AreReaches listed v.reaches.items
  pub mirror_is : IsMirror listed v.mirror.items
  pub sifted : AreSifted S listed n v.shelves

pub record IsSieve (S : LinearSystem) (listed : List (List ℤ)) (d : ℕ) (v : Sieve) : Type 0 where
  pub within : v.rows ≤ length listed
  pub reach_count : length v.reaches.items ≡ v.rows
  pub upto : IsSieveTo S listed d v.rows v

-- the rows before place n with last entry above 0 are sifted, and the negatives of these
pub record AreCoupledTo (S : LinearSystem) (listed : List (List ℤ)) (d n : ℕ)
    (v : Sieve) : Type 0 where
  pub plus_table : IsTable S listed (IsBefore listed has_positive_last n) n v.plus
  pub minus_table : IsTable S listed (IsTurnedBefore listed v.mirror.items n) n v.minus
  pub shelves_are : length v.shelves.shelves.items ≡ 256
  pub closed : v.shelves.closed ≤ d
  pub reaches_are : AreReaches listed v.reaches.items
  pub whole : IsWholeMirror listed v.mirror.items
  pub sifted : (i j : ℕ) → i < length listed → j < length listed
      → IsBefore listed has_positive_last n i → IsTurnedBefore listed v.mirror.items n j
      → IsSiftedBy Plus S listed v.shelves i j

-- all is the same but for the reaches, or but for the mirror
abbrev pub HasNewReaches : Sieve → Sieve → Type 0
HasNewReaches old new =
    (new.rows ≡ old.rows) × (new.mirror ≡ old.mirror) × (new.plus ≡ old.plus)
    × (new.minus ≡ old.minus) × (new.shelves ≡ old.shelves)

abbrev pub HasNewMirror : Sieve → Sieve → Type 0
HasNewMirror old new =
    (new.rows ≡ old.rows) × (new.reaches ≡ old.reaches) × (new.plus ≡ old.plus)
    × (new.minus ≡ old.minus) × (new.shelves ≡ old.shelves)

-- nothing was sifted
pub record IsNewSieve (v : Sieve) : Type 0 where
  pub none : v.rows ≡ 0
  pub no_reaches : v.reaches.items ≡ []
  pub no_mirror : v.mirror.items ≡ []
  pub plus_ids : v.plus.ids.items ≡ []
  pub plus_groups : v.plus.groups.items ≡ []
  pub minus_ids : v.minus.ids.items ≡ []
  pub minus_groups : v.minus.groups.items ≡ []
  pub shelves_are : length v.shelves.shelves.items ≡ 256
  pub none_closed : v.shelves.closed ≡ 0

-- ---- what is asked of a row
-- the row reaches the lines at the places, or bars them
pub record AreAsked (S : LinearSystem) (listed : List (List ℤ)) (f : List ℤ)
    (r : Room) : Type 0 where
  pub probe : length r.probe.items ≡ width S + 1
  pub bars_count : length r.bars.items ≡ 2 * width S
  pub reached_count : length r.reached.items ≡ 2 * width S
  pub turned_count : length r.turned.items ≡ 2 * width S
  pub bars : AreTrue (BarsLine S listed f) true r.bars.items
  pub reached : AreTrue (ReachesLine f) false r.reached.items
  pub bar_reads : AreReads (ReachesLine f) (16 * width S) r.bar_reads.items
  pub reach_reads : AreReads (BarsLine S listed f) (16 * width S) r.reach_reads.items

-- there is room
pub record IsRoom (S : LinearSystem) (r : Room) : Type 0 where
  pub probe : length r.probe.items ≡ width S + 1
  pub bars_count : length r.bars.items ≡ 2 * width S
  pub reached_count : length r.reached.items ≡ 2 * width S
  pub turned_count : length r.turned.items ≡ 2 * width S
