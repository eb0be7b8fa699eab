-- The pairs of a norm that may have an irreducible sum, by their numbers.
use Rattle.std.specs.Prelude.{◌≡◌, ◌⊎◌, ℕ, ◌+◌, ◌-◌, ◌*◌, ◌<◌, ◌≤◌, List, [], ℤ, pos, IsTrue, length, take, set, slice_index_or}
use Rattle.std.specs.List.{AllByRecursion, Contains, sum_by}
use Rattle.std.specs.List.Sorted.{IsNonDecreasingBy}
use Rattle.int_vector.specs.Operations.{add}
use Rattle.lift_core.specs.Stages.{stage_norm, IsPair}
use Rattle.lift_core.specs.PairSums.{HasSum, IsIrreducible}
use Rattle.stage_store.specs.Stage.{StageValue, IsDefined}
use Rattle.stage_store.specs.Classes.{ClassValue, IsPairAt, pairs_of, part_size, ids_of, ids_at, norm_at}
use Rattle.stage_store.specs.Found.{IsSumOf}
use Rattle.stage_store.specs.Numbered.{pair_at}
use Rattle.stage_store.specs.declared.sieve.KeptPair.{KeptPair}
use Rattle.stage_store.specs.declared.opened.OpenPair.{OpenPair}
use Rattle.stage_store.specs.declared.opened.Halves.{Halves}
use Rattle.stage_store.specs.declared.opened.Opened.{Opened}

-- ascending, where none is there twice
abbrev pub AreAscending : List ℕ → Type 0
AreAscending ids =
    (i j : ℕ) → i ≤ j → j < length ids → slice_index_or ids i 0 ≤ slice_index_or ids j 0

abbrev pub AscendWithin : List ClassValue → Type 0
AscendWithin classes = AllByRecursion (λ c. AreAscending c.ids) classes

-- the number of the first pair of each class
pub record AreStarts (plus minus : List ClassValue) (e : ℕ) (starts : List ℕ) : Type 0 where
  pub count : length starts ≡ length plus
  pub each : (k : ℕ) → k < length plus
      → slice_index_or starts k 0 ≡ sum_by (λ c. part_size minus e c) (take k plus)

-- the place of the class of norm n, and that there is none
pub record IsClassOf (classes : List ClassValue) (n k : ℕ) : Type 0 where
  pub inside : k < length classes
  pub norm_is : norm_at classes k ≡ n

abbrev pub HasNoClass : List ClassValue → ℕ → Type 0
HasNoClass classes n = (k : ℕ) → k < length classes → norm_at classes k ≡ n → ⊥

-- the pairs of first and second places are numbered from the start on, and that of i and j is the p-th
pub record IsPlacedIn (firsts seconds : List ℕ) (start i j p : ℕ) : Type 0 where
  pub q : ℕ
  pub r : ℕ
  pub q_inside : q < length firsts
  pub r_inside : r < length seconds
  pub first_is : slice_index_or firsts q 0 ≡ i
  pub second_is : slice_index_or seconds r 0 ≡ j
  pub number_is : p ≡ start + (q * length seconds + r)

abbrev pub open_number : OpenPair → ℕ
open_number x = x.number

-- the p-th pair of norm e is that of the places i and j
pub record IsNumberOf (plus minus : List ClassValue) (e i j p : ℕ) : Type 0 where
  pub inside : p < length (ids_of plus minus e)
  pub places : ◌≡◌ {A = ℕ × ℕ} (slice_index_or (ids_of plus minus e) p (0, 0)) (i, j)

-- no class of the norm has place i, or the other sign's class for norm e has no place j
abbrev pub HasNoNumber : List ClassValue → List ClassValue → ℕ → ℕ → ℕ → ℕ → Type 0
HasNoNumber plus minus e norm i j =
    (k : ℕ) → k < length plus → norm_at plus k ≡ norm
    → Contains (slice_index_or plus k (record { norm = 0; ids = [] })).ids i
    → Contains (ids_at minus (e - norm)) j → ⊥

-- the pair is none of norm e
abbrev pub IsNotNumbered : List ClassValue → List ClassValue → ℕ → KeptPair → Type 0
IsNotNumbered plus minus e x = x.norm ≡ e → Contains (ids_of plus minus e) (x.first, x.second) → ⊥

-- the pair has its number
abbrev pub IsNumbered : List ClassValue → List ClassValue → ℕ → OpenPair → Type 0
IsNumbered plus minus e x = IsNumberOf plus minus e x.first x.second x.number

-- the pair of the places i and j is among the open ones
pub record IsAmongOpen (opens : List OpenPair) (i j : ℕ) : Type 0 where
  pub pair : OpenPair
  pub among : Contains opens pair
  pub first_is : pair.first ≡ i
  pub second_is : pair.second ≡ j

-- of the kept pairs those of norm e that have a number are open
pub record AreOpened (plus minus : List ClassValue) (e : ℕ) (kept : List KeptPair)
    (opens : List OpenPair) : Type 0 where
  pub sound : (x : OpenPair) → Contains opens x → IsNumbered plus minus e x
  pub whole : (x : KeptPair) → Contains kept x → x.norm ≡ e
      → Contains (ids_of plus minus e) (x.first, x.second) → IsAmongOpen opens x.first x.second

-- the open pairs of norm e: in order of their numbers, and each pair of the norm that has an irreducible sum
pub record IsOpen (s : StageValue) (e : ℕ) (opens : List OpenPair) : Type 0 where
  pub sound : (k : ℕ) (d : OpenPair) → k < length opens
      → ((slice_index_or opens k d).number < length (pairs_of s.listed e))
      × IsPairAt s.listed e (slice_index_or opens k d).number (slice_index_or opens k d).first
      (slice_index_or opens k d).second
  pub ascending : IsNonDecreasingBy open_number opens
  pub whole : (p : ℕ) (z : List ℤ) → p < length (pairs_of s.listed e)
      → IsSumOf s.system.equations s.listed (pair_at s e p).0 (pair_at s e p).1 z
      → (x : OpenPair) × Contains opens x × (x.number ≡ p)

-- z has 1 in place j, and with 0 there instead no listed row is below it
abbrev pub IsFreeAtZero : List (List ℤ) → ℕ → List ℤ → Type 0
IsFreeAtZero listed j z =
    (slice_index_or z j (pos 0) ≡ pos 1) × IsIrreducible listed (set z j (pos 0))

-- no listed row is below z among the first ones, so many of them
abbrev pub IsFreeBefore : List (List ℤ) → ℕ → List ℤ → Type 0
IsFreeBefore listed count z = IsIrreducible (take count listed) z

-- among the rows that are enough none is below z: those of half of the norm, or those with x0 = 0
abbrev pub IsFreeByHalf : List (List ℤ) → Halves → List ℤ → Type 0
IsFreeByHalf listed halves z =
    IsFreeBefore listed halves.rows z
    ⊎ (IsTrue halves.by_x0 × IsFreeAtZero listed (length z - 2) z)

-- a search among them is enough for the sum of a pair of norm e
abbrev pub AreEnough : StageValue → ℕ → Halves → Type 0
AreEnough s e halves =
    (f g : List ℤ) → IsPair s.listed f g → stage_norm f + stage_norm g ≡ e
    → HasSum s.system.equations f g
    → IsFreeByHalf s.listed halves (add f g) → IsIrreducible s.listed (add f g)

-- what is said of the lists holds, and what is said of a norm's open pairs, once they are known
pub record IsAhead (s : StageValue) (o : Opened) : Type 0 where
  pub defined : IsTrue o.defined → IsDefined s
  pub opens : IsTrue o.known → IsOpen s o.norm o.pairs.items
  pub enough : IsTrue o.known → AreEnough s o.norm o.halves
