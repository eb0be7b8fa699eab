-- The cells of the tables, one row and one cell after another.
use Rattle.std.proofs.Common.{◌≡◌, ◌≤◌, ◌+◌, ◌*◌, ◌/◌, ◌%◌, ◌==◌, ℕ, ℤ, zero, suc, pos, Bool, true, false, List, [], ◌∷◌, ◌++◌, map, length, None, refl, ap, sym, ◌∙◌, arith, append_assoc}
use Rattle.std.specs.List.{AllByRecursion, flat_map, range_with_len}
use Rattle.std.proofs.lemmas.List.{length-append, length-replicate}
use Rattle.std.proofs.lemmas.List.Concat.{flat_map-append}
use Rattle.std.proofs.lemmas.List.FromFn.{length-map-range_with_len, map-range_with_len_more}
use Rattle.mat_files.specs.Grids.{IsMatrix}
use Rattle.int_vector.specs.Range.{InRange}
use Rattle.lift_core.specs.declared.Tool.TheVariants.{Graver}
use Rattle.system_shape.specs.Shape.{shape_fault, user_system}
use Rattle.system_shape.specs.Tables.{mark, row_sum, column_sum, table_cells, tables_input}

-- one cell more of a row that is made cell by cell
pub cell_more : (f : ℕ → ℤ) (old items : List ℤ) (c : ℕ) → items ≡ old ++ map f (range_with_len 0 c) → items ++ f c ∷ [] ≡ old ++ map f (range_with_len 0 (c + 1))
cell_more f old items c e =
    ap (λ (l : List ℤ). l ++ f c ∷ []) e ∙ append_assoc old (map f (range_with_len 0 c)) (f c ∷ [])
    ∙ ap (λ (l : List ℤ). old ++ l) (sym (map-range_with_len_more f 0 c c (omega arith)))

counted_last : (a n j : ℕ) → a + n ≡ j → range_with_len a (suc n) ≡ range_with_len a n ++ j ∷ []
counted_last a zero j e = let same : a ≡ j = omega (arith, e) in ap (λ k. k ∷ []) same
counted_last a (suc n) j e = ap (λ (l : List ℕ). a ∷ l) (counted_last (a + 1) n j (omega (arith, e)))

flat_more : (f : ℕ → List ℤ) (n : ℕ) → flat_map f (range_with_len 0 (n + 1)) ≡ flat_map f (range_with_len 0 n) ++ f n
flat_more f n =
    ap (λ m. flat_map f (range_with_len 0 m)) (let e : n + 1 ≡ suc n = omega arith in e)
    ∙ ap (flat_map f) (counted_last 0 n n (omega arith)) ∙ flat_map-append f (range_with_len 0 n) (n ∷ [])
    ∙ ap (λ (l : List ℤ). flat_map f (range_with_len 0 n) ++ l) (append_none (f n))
  where
    append_none : (l : List ℤ) → l ++ [] ≡ l
    append_none [] = refl
    append_none (x ∷ l) = ap (λ r. x ∷ r) (append_none l)

-- one row more of a matrix that is made row by row
pub row_more : (f : ℕ → List ℤ) (old items new : List ℤ) (n : ℕ) → items ≡ old ++ flat_map f (range_with_len 0 n) → new ≡ items ++ f n → new ≡ old ++ flat_map f (range_with_len 0 (n + 1))
row_more f old items new n e pushed =
    pushed ∙ ap (λ (l : List ℤ). l ++ f n) e ∙ append_assoc old (flat_map f (range_with_len 0 n)) (f n) ∙ ap (λ (l : List ℤ). old ++ l) (sym (flat_more f n))

-- ---- the cells are a matrix

flat_length : (f : ℕ → List ℤ) (w : ℕ) → ((i : ℕ) → length (f i) ≡ w) → (xs : List ℕ) → length (flat_map f xs) ≡ length xs * w
flat_length f w each [] = omega arith
flat_length f w each (x ∷ xs) = omega (arith, length-append (f x) (flat_map f xs), each x, flat_length f w each xs)

counted_length : (a n : ℕ) → length (range_with_len a n) ≡ n
counted_length a zero = refl
counted_length a (suc n) = ap suc (counted_length (a + 1) n)

pub cells_length : (k : ℕ) → length (table_cells k) ≡ (3 + k) * (3 * k)
cells_length k =
    let rows = flat_length (row_sum k) (3 * k) (λ i. length-map-range_with_len (λ c. mark (c / k == i)) 0 (3 * k)) (range_with_len 0 3) in
    let columns = flat_length (column_sum k) (3 * k) (λ j. length-map-range_with_len (λ c. mark (c % k == j)) 0 (3 * k)) (range_with_len 0 k) in
    length-append (flat_map (row_sum k) (range_with_len 0 3)) (flat_map (column_sum k) (range_with_len 0 k))
    ∙ ap (λ n. n + length (flat_map (column_sum k) (range_with_len 0 k))) rows
    ∙ ap (λ n. 3 * (3 * k) + n) (columns ∙ ap (λ n. n * (3 * k)) (counted_length 0 k))
    ∙ (omega arith)

all_append : (xs ys : List ℤ) → AllByRecursion InRange xs → AllByRecursion InRange ys → AllByRecursion InRange (xs ++ ys)
all_append [] ys a b = b
all_append (x ∷ xs) ys a b = (a.0, all_append xs ys a.1 b)

all_flat : (f : ℕ → List ℤ) → ((i : ℕ) → AllByRecursion InRange (f i)) → (xs : List ℕ) → AllByRecursion InRange (flat_map f xs)
all_flat f each [] = tt
all_flat f each (x ∷ xs) = all_append (f x) (flat_map f xs) (each x) (all_flat f each xs)

mark_small : (b : Bool) → InRange (mark b)
mark_small true = omega arith
mark_small false = omega arith

all_marks : (f : ℕ → Bool) (xs : List ℕ) → AllByRecursion InRange (map (λ c. mark (f c)) xs)
all_marks f [] = tt
all_marks f (x ∷ xs) = (mark_small (f x), all_marks f xs)

pub cells_small : (k : ℕ) → AllByRecursion InRange (table_cells k)
cells_small k = all_append (flat_map (row_sum k) (range_with_len 0 3)) (flat_map (column_sum k) (range_with_len 0 k))
    (all_flat (row_sum k) (λ i. all_marks (λ c. c / k == i) (range_with_len 0 (3 * k))) (range_with_len 0 3))
    (all_flat (column_sum k) (λ j. all_marks (λ c. c % k == j) (range_with_len 0 (3 * k))) (range_with_len 0 k))

pub cells_are_matrix : (k : ℕ) → 2 ≤ k → IsMatrix (3 + k) (3 * k) (table_cells k)
cells_are_matrix k some = record { count = cells_length k; wide = omega (arith, some); small = cells_small k }

-- ---- the input of the tables

pub tables_have_no_fault : (k : ℕ) → shape_fault Graver (tables_input k) ≡ None
tables_have_no_fault k = refl

pub tables_have_signs : (k : ℕ) → (tables_input k).mat.cols ≡ length (user_system Graver (tables_input k)).signs
tables_have_signs k = sym (length-replicate (3 * k) (pos 2))
