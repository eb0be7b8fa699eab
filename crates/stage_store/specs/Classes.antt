-- Classes of rows: those of one norm, by their places in the list.
use Rattle.std.specs.Prelude.{◌≡◌, ℕ, ◌-◌, ◌+◌, ◌*◌, ◌<◌, ◌==◌, List, [], ◌∷◌, ◌++◌, ℤ, length, map, Bool, cond, slice_index_or}
use Rattle.std.specs.List.{AllByRecursion, filter, flat_map}
use Rattle.std.specs.List.Sorted.{IsStrictlySortedBy}
use Rattle.std.specs.declared.cmp.Ordering.{Ordering}
use Rattle.std.specs.Ordering.{nat_cmp, on}
use Rattle.lift_core.specs.Stages.{stage_norm, has_positive_last, has_negative_last}
use Rattle.stage_store.specs.declared.side.Side.{Side}
use Rattle.stage_store.specs.declared.side.Side.TheVariants.{Plus, Minus}

pub record ClassValue : Type 0 where
  pub norm : ℕ
  pub ids : List ℕ

abbrev pub class_norm : ClassValue → ℕ
class_norm c = c.norm

abbrev pub class_cmp : ClassValue → ClassValue → Ordering
class_cmp = on class_norm nat_cmp

abbrev pub row_at : List (List ℤ) → ℕ → List ℤ
row_at listed i = slice_index_or listed i []

-- the rows at the places
abbrev pub rows_at : List (List ℤ) → List ℕ → List (List ℤ)
rows_at listed ids = map (λ i. row_at listed i) ids

-- a place of a row of this norm
pub record IsPlace (listed : List (List ℤ)) (norm : ℕ) (i : ℕ) : Type 0 where
  pub inside : i < length listed
  pub norm_is : stage_norm (row_at listed i) ≡ norm

pub record IsClass (listed : List (List ℤ)) (c : ClassValue) : Type 0 where
  pub positive : 0 < c.norm
  pub some : 0 < length c.ids
  pub places : AllByRecursion (IsPlace listed c.norm) c.ids

-- the classes hold the rows that pass the test, in order
pub record AreClasses (listed : List (List ℤ)) (test : List ℤ → Bool)
    (classes : List ClassValue) : Type 0 where
  pub each : AllByRecursion (IsClass listed) classes
  pub ascending : IsStrictlySortedBy class_cmp classes
  pub rows : flat_map (λ c. rows_at listed c.ids) classes ≡ filter test listed

-- the places in the class of this norm
abbrev pub ids_at : List ClassValue → ℕ → List ℕ
ids_at classes n = flat_map (λ c. cond (c.norm == n) c.ids []) classes

-- the norm of the k-th class
abbrev pub norm_at : List ClassValue → ℕ → ℕ
norm_at classes k = (slice_index_or classes k (record { norm = 0; ids = [] })).norm

-- the number of pairs of norm e with a first row in the class
abbrev pub part_size : List ClassValue → ℕ → ClassValue → ℕ
part_size minus e c = length c.ids * length (ids_at minus (e - c.norm))

-- the places of the pairs of norm e with a first row in the class, and of all
abbrev pub id_part : List ClassValue → ℕ → ClassValue → List (ℕ × ℕ)
id_part minus e c = flat_map (λ i. map (λ j. (i, j)) (ids_at minus (e - c.norm))) c.ids

abbrev pub ids_of : List ClassValue → List ClassValue → ℕ → List (ℕ × ℕ)
ids_of plus minus e = flat_map (λ c. id_part minus e c) plus

-- the places from i on of the rows that pass the test
abbrev pub places : (List ℤ → Bool) → ℕ → List (List ℤ) → List ℕ
places test i [] = []
places test i (z ∷ rows) = cond (test z) (i ∷ places test (i + 1) rows) (places test (i + 1) rows)

-- the classes with the one of norm e, where it is not empty
abbrev pub with_class : ℕ → List ℕ → List ClassValue → List ClassValue
with_class e [] classes = classes
with_class e (i ∷ ids) classes = classes ++ (record { norm = e; ids = i ∷ ids } ∷ [])

-- whether a row is on the side: its last entry is above 0, or below 0
abbrev pub sign_test : Side → List ℤ → Bool
sign_test Plus z = has_positive_last z
sign_test Minus z = has_negative_last z

abbrev pub other_side : Side → Side
other_side Plus = Minus
other_side Minus = Plus

-- ---- the numbering
-- the pairs of norm e in order: the first rows as they are listed, and each with its second rows as they are listed
abbrev pub pairs_of : List (List ℤ) → ℕ → List (List ℤ × List ℤ)
pairs_of listed e =
    flat_map (λ f. map (λ g. (f, g))
    (filter (λ g. stage_norm f + stage_norm g == e) (filter has_negative_last listed)))
    (filter has_positive_last listed)

-- the p-th pair of norm e is that of the rows at places i and j
pub record IsPairAt (listed : List (List ℤ)) (e p i j : ℕ) : Type 0 where
  pub one : i < length listed
  pub two : j < length listed
  pub pair : slice_index_or (pairs_of listed e) p ([], []) ≡ (row_at listed i, row_at listed j)
