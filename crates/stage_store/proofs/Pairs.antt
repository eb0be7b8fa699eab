-- The pairs of a norm, by the classes.
use Rattle.std.proofs.Common.{◌≡◌, ℕ, zero, suc, ◌+◌, ◌-◌, ◌*◌, ◌/◌, ◌%◌, ◌^◌, ◌≤◌, ◌<◌, List, [], ◌∷◌, ◌++◌, length, get_or, refl, ap, ap₂, sym, ◌∙◌, subst, arith, inl, inr, Bool, true, false, cond, eqb, length-append, take}
use Rattle.std.specs.Prelude.{ℤ, map, ◌==◌}
use Rattle.std.specs.List.{AllByRecursion, filter, flat_map, sum_by}
use Rattle.std.proofs.lemmas.Bool.{cases_Bool, cases_lt, cases_eq, eq-eqb}
use Rattle.std.proofs.lemmas.Bool.Decides.{eqb_tells}
use Rattle.std.proofs.lemmas.List.{length-map, get_or_append_left, get_or-append-add, get_or-map}
use Rattle.std.proofs.lemmas.List.Concat.{get_or-flat_map}
use Rattle.std.proofs.lemmas.List.Elements.{filter-append}
use Rattle.std.proofs.lemmas.List.Sums.{sum_by-cons}
use Rattle.std.proofs.lemmas.Nat.{div-add-mod'}
use Rattle.std.proofs.lemmas.Grind.{flat_map-append}
use Rattle.lift_core.specs.Stages.{stage_norm, has_positive_last, has_negative_last}
use Rattle.stage_store.proofs.Classes.{each_at}
use Rattle.stage_store.specs.Classes.{ClassValue, row_at, rows_at, IsPlace, IsClass, AreClasses, ids_at, part_size, id_part, ids_of, pairs_of, IsPairAt}

map-append : {A B : Type 0} (f : A → B) (xs ys : List A) → map f (xs ++ ys) ≡ map f xs ++ map f ys
map-append f [] ys = refl
map-append f (x ∷ xs) ys = ap (λ l. f x ∷ l) (map-append f xs ys)

abbrev no_class : ClassValue
no_class = record { norm = 0; ids = [] }

-- a sum with a class's norm is e exactly where the norm is what is left
pub test_same : (a n e : ℕ) → 0 < n → eqb (a + n) e ≡ eqb n (e - a)
test_same a n e h = elim (cases_eq (a + n) e) [
  | inl same ↦ eq-eqb (a + n) e same ∙ sym (eq-eqb n (e - a) (omega (arith, same)))
  | inr other ↦ elim (eqb_tells (a + n) e) [
    | inl t ↦ absurd (other t.1)
    | inr t ↦ elim (eqb_tells n (e - a)) [
      | inl u ↦ absurd (other (omega (arith, u.1, h)))
      | inr u ↦ t.0 ∙ sym u.0
    ]
  ]
]

module _ (listed : List (List ℤ)) (a e : ℕ) where
  filter_rows-true : (n : ℕ) (ids : List ℕ) → AllByRecursion (IsPlace listed n) ids → eqb (a + n) e ≡ true → filter (λ g. a + stage_norm g == e) (rows_at listed ids) ≡ rows_at listed ids
  filter_rows-true n [] h t = refl
  filter_rows-true n (i ∷ ids) h t =
      let q : eqb (a + stage_norm (row_at listed i)) e ≡ true = ap (λ m. eqb (a + m) e) h.0.norm_is ∙ t in
      rw q (ap (λ xs. row_at listed i ∷ xs) (filter_rows-true n ids h.1 t))

  filter_rows-false : (n : ℕ) (ids : List ℕ) → AllByRecursion (IsPlace listed n) ids → eqb (a + n) e ≡ false → filter (λ g. a + stage_norm g == e) (rows_at listed ids) ≡ []
  filter_rows-false n [] h t = refl
  filter_rows-false n (i ∷ ids) h t =
      let q : eqb (a + stage_norm (row_at listed i)) e ≡ false = ap (λ m. eqb (a + m) e) h.0.norm_is ∙ t in
      rw q (filter_rows-false n ids h.1 t)

  filter_class : (c : ClassValue) → IsClass listed c → filter (λ g. a + stage_norm g == e) (rows_at listed c.ids) ≡ rows_at listed (cond (c.norm == e - a) c.ids [])
  filter_class c h = elim (cases_Bool (c.norm == e - a)) [
    | inl t ↦ filter_rows-true c.norm c.ids h.places (test_same a c.norm e h.positive ∙ t) ∙ ap (λ b. rows_at listed (cond b c.ids [])) (sym t)
    | inr t ↦ filter_rows-false c.norm c.ids h.places (test_same a c.norm e h.positive ∙ t) ∙ ap (λ b. rows_at listed (cond b c.ids [])) (sym t)
  ]

  filter_classes : (cs : List ClassValue) → AllByRecursion (IsClass listed) cs → filter (λ g. a + stage_norm g == e) (flat_map (λ c. rows_at listed c.ids) cs) ≡ rows_at listed (ids_at cs (e - a))
  filter_classes [] h = refl
  filter_classes (c ∷ cs) h =
      filter-append (λ g. a + stage_norm g == e) (rows_at listed c.ids) (flat_map (λ c. rows_at listed c.ids) cs)
      ∙ ap₂ (λ xs ys. xs ++ ys) (filter_class c h.0) (filter_classes cs h.1)
      ∙ sym (map-append (λ i. row_at listed i) (cond (c.norm == e - a) c.ids []) (ids_at cs (e - a)))

-- the rows at two places
abbrev pub rows_two : List (List ℤ) → ℕ × ℕ → List ℤ × List ℤ
rows_two listed p = (row_at listed p.0, row_at listed p.1)

map_pairs : (listed : List (List ℤ)) (i : ℕ) (js : List ℕ) → map (λ g. (row_at listed i, g)) (rows_at listed js) ≡ map (rows_two listed) (map (λ j. (i, j)) js)
map_pairs listed i [] = refl
map_pairs listed i (j ∷ js) = ap (λ xs. (row_at listed i, row_at listed j) ∷ xs) (map_pairs listed i js)

module _ (listed : List (List ℤ)) (minus : List ClassValue) (e : ℕ) (classes : AreClasses listed has_negative_last minus) where
  seconds : (f : List ℤ) → filter (λ g. stage_norm f + stage_norm g == e) (filter has_negative_last listed) ≡ rows_at listed (ids_at minus (e - stage_norm f))
  seconds f = ap (filter (λ g. stage_norm f + stage_norm g == e)) (sym classes.rows) ∙ filter_classes listed (stage_norm f) e minus classes.each

  with_first : List ℤ → List (List ℤ × List ℤ)
  with_first f = map (λ g. (f, g)) (filter (λ g. stage_norm f + stage_norm g == e) (filter has_negative_last listed))

  first_is : (n i : ℕ) → IsPlace listed n i → with_first (row_at listed i) ≡ map (rows_two listed) (map (λ j. (i, j)) (ids_at minus (e - n)))
  unfolding with_first
  first_is n i h =
      ap (map (λ g. (row_at listed i, g))) (seconds (row_at listed i) ∙ ap (λ m. rows_at listed (ids_at minus (e - m))) h.norm_is)
      ∙ map_pairs listed i (ids_at minus (e - n))

  class_part : (n : ℕ) (ids : List ℕ) → AllByRecursion (IsPlace listed n) ids → flat_map with_first (rows_at listed ids) ≡ map (rows_two listed) (flat_map (λ i. map (λ j. (i, j)) (ids_at minus (e - n))) ids)
  class_part n [] h = refl
  class_part n (i ∷ ids) h =
      ap₂ (λ xs ys. xs ++ ys) (first_is n i h.0) (class_part n ids h.1)
      ∙ sym (map-append (rows_two listed) (map (λ j. (i, j)) (ids_at minus (e - n))) (flat_map (λ i. map (λ j. (i, j)) (ids_at minus (e - n))) ids))

  all_parts : (cs : List ClassValue) → AllByRecursion (IsClass listed) cs → flat_map with_first (flat_map (λ c. rows_at listed c.ids) cs) ≡ map (rows_two listed) (ids_of cs minus e)
  all_parts [] h = refl
  all_parts (c ∷ cs) h =
      flat_map-append with_first (rows_at listed c.ids) (flat_map (λ c. rows_at listed c.ids) cs)
      ∙ ap₂ (λ xs ys. xs ++ ys) (class_part c.norm c.ids h.0.places) (all_parts cs h.1)
      ∙ sym (map-append (rows_two listed) (id_part minus e c) (ids_of cs minus e))

  pub pairs_is : (plus : List ClassValue) → AreClasses listed has_positive_last plus → pairs_of listed e ≡ map (rows_two listed) (ids_of plus minus e)
  unfolding with_first
  pairs_is plus p = ap (flat_map with_first) (sym p.rows) ∙ all_parts plus p.each

-- ---- how many, and the one at a place
product_length : {A : Type 0} (h : ℕ → ℕ → A) (is js : List ℕ) → length (flat_map (λ i. map (λ j. h i j) js) is) ≡ length is * length js
product_length h [] js = omega arith
product_length h (i ∷ is) js =
    length-append (map (λ j. h i j) js) (flat_map (λ i. map (λ j. h i j) js) is)
    ∙ ap₂ (λ m n. m + n) (length-map js (λ j. h i j)) (product_length h is js) ∙ omega arith

pub id_part-length : (minus : List ClassValue) (e : ℕ) (c : ClassValue) → length (id_part minus e c) ≡ part_size minus e c
id_part-length minus e c = product_length (λ i j. (i, j)) c.ids (ids_at minus (e - c.norm))

pub ids_of-length : (plus minus : List ClassValue) (e : ℕ) → length (ids_of plus minus e) ≡ sum_by (λ c. part_size minus e c) plus
ids_of-length [] minus e = refl
ids_of-length (c ∷ plus) minus e =
    length-append (id_part minus e c) (ids_of plus minus e)
    ∙ ap₂ (λ m n. m + n) (id_part-length minus e c) (ids_of-length plus minus e)
    ∙ sym (sum_by-cons (λ c. part_size minus e c) c plus)

pub pairs_count : (listed : List (List ℤ)) (plus minus : List ClassValue) (e : ℕ) → AreClasses listed has_positive_last plus → AreClasses listed has_negative_last minus → length (pairs_of listed e) ≡ sum_by (λ c. part_size minus e c) plus
pairs_count listed plus minus e p m = ap length (pairs_is listed minus e m plus p) ∙ length-map (ids_of plus minus e) (rows_two listed) ∙ ids_of-length plus minus e

-- the q * length js + r-th of a product
abbrev place_pair : ℕ → ℕ → ℕ × ℕ
place_pair i j = (i, j)

pub product_at : (is js : List ℕ) (q r : ℕ) → q < length is → r < length js → get_or (flat_map (λ i. map (place_pair i) js) is) (q * length js + r) (0, 0) ≡ place_pair (get_or is q 0) (get_or js r 0)
product_at [] js q r a b = absurd (omega arith)
product_at (i ∷ is) js zero r a b =
    let e : 0 * length js + r ≡ r = omega arith in
    rw e (get_or_append_left (map (place_pair i) js) (flat_map (λ i. map (place_pair i) js) is) (0, 0) r (omega (arith, b, length-map js (place_pair i)))
    ∙ get_or-map (place_pair i) js r 0 (0, 0) b)
product_at (i ∷ is) js (suc q) r a b =
    let e : suc q * length js + r ≡ length (map (place_pair i) js) + (q * length js + r) = omega (arith, length-map js (place_pair i)) in
    rw e (get_or-append-add (map (place_pair i) js) (flat_map (λ i. map (place_pair i) js) is) (q * length js + r) (0, 0) ∙ product_at is js q r (omega arith) b)

more_rows : (n q m : ℕ) → n ≤ q → n * m ≤ q * m
more_rows n q m h = grind arith

below_rows : (q m r n : ℕ) → q * m + r < n * m → q < n
below_rows q m r n h = elim (cases_lt q n) [
  | inl l ↦ l
  | inr l ↦ omega (arith, more_rows n q m l, h)
]

pub some_size : (r n m : ℕ) → r < n * m → 0 < m
some_size r n zero h = let z : n * 0 ≡ 0 = omega arith in omega (arith, z, h)
some_size r n (suc m) h = omega arith

-- the rest-th pair of the class at place k
pub pair_at : (plus minus : List ClassValue) (e k rest q r : ℕ) → k < length plus → rest < part_size minus e (get_or plus k no_class)
    → rest ≡ q * length (ids_at minus (e - (get_or plus k no_class).norm)) + r → r < length (ids_at minus (e - (get_or plus k no_class).norm))
    → ◌≡◌ {A = ℕ × ℕ} (get_or (ids_of plus minus e) (sum_by (λ c. part_size minus e c) (take k plus) + rest) (0, 0)) (get_or (get_or plus k no_class).ids q 0, get_or (ids_at minus (e - (get_or plus k no_class).norm)) r 0)
pair_at plus minus e k rest q r l inside is small =
    let c : ClassValue = get_or plus k no_class in
    let js : List ℕ = ids_at minus (e - (get_or plus k no_class).norm) in
    let n : length (flat_map (λ c. id_part minus e c) (take k plus)) ≡ sum_by (λ c. part_size minus e c) (take k plus) = ids_of-length (take k plus) minus e in
    ap (λ m. get_or (ids_of plus minus e) (m + rest) (0, 0)) (sym n)
    ∙ get_or-flat_map (λ c. id_part minus e c) plus k rest no_class (0, 0) l (omega (arith, inside, id_part-length minus e (get_or plus k no_class)))
    ∙ ap (λ m. get_or (id_part minus e (get_or plus k no_class)) m (0, 0)) is
    ∙ product_at (get_or plus k no_class).ids (ids_at minus (e - (get_or plus k no_class).norm)) q r (below_rows q (length js) r (length (get_or plus k no_class).ids) (omega (arith, is, inside))) small

pub all_taken : {X : Type 0} (f : X → ℕ) (xs : List X) (i : ℕ) → length xs ≤ i → sum_by f (take i xs) ≡ sum_by f xs
all_taken f [] zero h = refl
all_taken f [] (suc i) h = refl
all_taken f (x ∷ xs) zero h = absurd (omega arith)
all_taken f (x ∷ xs) (suc i) h = sum_by-cons f x (take i xs) ∙ ap (λ n. f x + n) (all_taken f xs i (omega arith)) ∙ sym (sum_by-cons f x xs)

pub whole : (r m : ℕ) → r ≡ (r / m) * m + r % m
whole r m = sym (div-add-mod' r m)

-- ---- bounds
abbrev class_rows : List (List ℤ) → ClassValue → List (List ℤ)
class_rows listed c = rows_at listed c.ids

ids_at-le : (listed : List (List ℤ)) (cs : List ClassValue) (n : ℕ) → length (ids_at cs n) ≤ length (flat_map (class_rows listed) cs)
ids_at-le listed [] n = omega arith
ids_at-le listed (c ∷ cs) n = elim (cases_Bool (c.norm == n)) [
  | inl t ↦ rw t (omega (arith, length-append c.ids (ids_at cs n), length-append (class_rows listed c) (flat_map (class_rows listed) cs), length-map c.ids (row_at listed), ids_at-le listed cs n))
  | inr t ↦ rw t (omega (arith, length-append (class_rows listed c) (flat_map (class_rows listed) cs), ids_at-le listed cs n))
]

product_le : (a b m : ℕ) → b ≤ m → a * b ≤ a * m
product_le a b m h = grind arith

parts_le : (listed : List (List ℤ)) (plus minus : List ClassValue) (e most : ℕ) → ((n : ℕ) → length (ids_at minus n) ≤ most) → sum_by (λ c. part_size minus e c) plus ≤ length (flat_map (class_rows listed) plus) * most
parts_le listed [] minus e most h = omega arith
parts_le listed (c ∷ plus) minus e most h =
    let r : sum_by (λ c. part_size minus e c) plus ≤ length (flat_map (class_rows listed) plus) * most = parts_le listed plus minus e most h in
    let p : length c.ids * length (ids_at minus (e - c.norm)) ≤ length c.ids * most = product_le (length c.ids) (length (ids_at minus (e - c.norm))) most (h (e - c.norm)) in
    let n : length (flat_map (class_rows listed) (c ∷ plus)) ≡ length c.ids + length (flat_map (class_rows listed) plus) = length-append (class_rows listed c) (flat_map (class_rows listed) plus) ∙ ap (λ k. k + length (flat_map (class_rows listed) plus)) (length-map c.ids (row_at listed)) in
    omega (arith, sum_by-cons (λ c. part_size minus e c) c plus, r, p, ap (λ k. k * most) n)

filter_le : {X : Type 0} (test : X → Bool) (xs : List X) → length (filter test xs) ≤ length xs
filter_le test [] = omega arith
filter_le test (x ∷ xs) = elim (cases_Bool (test x)) [
  | inl t ↦ rw t (omega (arith, filter_le test xs))
  | inr t ↦ rw t (omega (arith, filter_le test xs))
]

pub ids_few : (listed : List (List ℤ)) (cs : List ClassValue) (test : List ℤ → Bool) (n : ℕ) → AreClasses listed test cs → length (ids_at cs n) ≤ length listed
ids_few listed cs test n h = omega (arith, ids_at-le listed cs n, ap length h.rows, filter_le test listed)

square : (a b : ℕ) → a ≤ b → a * b ≤ b * b
square a b h = grind arith

pub parts_small : (listed : List (List ℤ)) (plus minus : List ClassValue) (e : ℕ) → AreClasses listed has_positive_last plus → AreClasses listed has_negative_last minus → length listed ≤ 2 ^ 21 → sum_by (λ c. part_size minus e c) plus ≤ 2 ^ 42
parts_small listed plus minus e p m h =
    let one : length (flat_map (class_rows listed) plus) ≤ 2 ^ 21 = omega (arith, ap length p.rows, filter_le has_positive_last listed, h) in
    let two : (n : ℕ) → length (ids_at minus n) ≤ 2 ^ 21 = λ n. omega (arith, ids_at-le listed minus n, ap length m.rows, filter_le has_negative_last listed, h) in
    omega (arith, parts_le listed plus minus e (2 ^ 21) two, one)

-- the places of a pair are places
pub record AreInside (listed : List (List ℤ)) (p : ℕ × ℕ) : Type 0 where
  pub one : p.0 < length listed
  pub two : p.1 < length listed

each_append : {A : Type 0} (P : A → Type 0) (xs ys : List A) → AllByRecursion P xs → AllByRecursion P ys → AllByRecursion P (xs ++ ys)
each_append P [] ys h k = k
each_append P (x ∷ xs) ys h k = (h.0, each_append P xs ys h.1 k)

pub inside_ids : (listed : List (List ℤ)) (n : ℕ) (ids : List ℕ) → AllByRecursion (IsPlace listed n) ids → AllByRecursion (λ i. i < length listed) ids
inside_ids listed n [] h = tt
inside_ids listed n (i ∷ ids) h = (h.0.inside, inside_ids listed n ids h.1)

pub inside_at : (listed : List (List ℤ)) (cs : List ClassValue) (n : ℕ) → AllByRecursion (IsClass listed) cs → AllByRecursion (λ i. i < length listed) (ids_at cs n)
inside_at listed [] n h = tt
inside_at listed (c ∷ cs) n h = elim (cases_Bool (c.norm == n)) [
  | inl t ↦ rw t (each_append (λ i. i < length listed) c.ids (ids_at cs n) (inside_ids listed c.norm c.ids h.0.places) (inside_at listed cs n h.1))
  | inr t ↦ rw t (inside_at listed cs n h.1)
]

inside_row : (listed : List (List ℤ)) (i : ℕ) (js : List ℕ) → i < length listed → AllByRecursion (λ j. j < length listed) js → AllByRecursion (AreInside listed) (map (place_pair i) js)
inside_row listed i [] l h = tt
inside_row listed i (j ∷ js) l h = (record { one = l; two = h.0 }, inside_row listed i js l h.1)

inside_product : (listed : List (List ℤ)) (is js : List ℕ) → AllByRecursion (λ i. i < length listed) is → AllByRecursion (λ j. j < length listed) js → AllByRecursion (AreInside listed) (flat_map (λ i. map (place_pair i) js) is)
inside_product listed [] js h k = tt
inside_product listed (i ∷ is) js h k = each_append (AreInside listed) (map (place_pair i) js) (flat_map (λ i. map (place_pair i) js) is) (inside_row listed i js h.0 k) (inside_product listed is js h.1 k)

pub inside_all : (listed : List (List ℤ)) (plus minus : List ClassValue) (e : ℕ) → AllByRecursion (IsClass listed) plus → AllByRecursion (IsClass listed) minus → AllByRecursion (AreInside listed) (ids_of plus minus e)
inside_all listed [] minus e h k = tt
inside_all listed (c ∷ plus) minus e h k =
    each_append (AreInside listed) (id_part minus e c) (ids_of plus minus e) (inside_product listed c.ids (ids_at minus (e - c.norm)) (inside_ids listed c.norm c.ids h.0.places) (inside_at listed minus (e - c.norm) k)) (inside_all listed plus minus e h.1 k)

pub pair_found : (listed : List (List ℤ)) (plus minus : List ClassValue) (e p : ℕ) (q : ℕ × ℕ) → AreClasses listed has_positive_last plus → AreClasses listed has_negative_last minus → p < length (pairs_of listed e) → q ≡ get_or (ids_of plus minus e) p (0, 0) → IsPairAt listed e p q.0 q.1
pair_found listed plus minus e p q a b l is =
    let n : p < length (ids_of plus minus e) = omega (arith, l, ap length (pairs_is listed minus e b plus a), length-map (ids_of plus minus e) (rows_two listed)) in
    let h : AreInside listed q = subst (AreInside listed) (sym is) (each_at (AreInside listed) (ids_of plus minus e) p (0, 0) (inside_all listed plus minus e a.each b.each) n) in
    record {
      one = h.one;
      two = h.two;
      pair = ap (λ l. get_or l p ([], [])) (pairs_is listed minus e b plus a) ∙ get_or-map (rows_two listed) (ids_of plus minus e) p (0, 0) ([], []) n ∙ ap (rows_two listed) (sym is);
    }
