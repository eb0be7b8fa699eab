-- The rows that a list of entries is cut into, and the system that they make.
-- By recursion on the number of rows: the first w entries are the first row, and what is left is cut further.
use Rattle.std.proofs.Common.{◌≡◌, ℕ, zero, suc, ◌+◌, ◌*◌, ◌/◌, ◌%◌, ◌<◌, ◌≤◌, List, [], ◌∷◌, ◌++◌, length, get_or, take, drop, refl, ap, ap₂, sym, ◌∙◌, arith, length-drop, length-take}
use Rattle.std.proofs.lemmas.Nat.{div-add-mod'}
use Rattle.std.proofs.Math.Nat.{div-le_of_le-mul, mul-div_cancel}
use Rattle.std.specs.Prelude.{ℤ, Option}
use Rattle.std.specs.List.{All}
use Rattle.std.proofs.lemmas.List.{drop-drop, take-append-drop}
use Rattle.std.proofs.lemmas.List.Elements.{All-cons, All-nil, All-take, All-drop}
use Rattle.int_vector.specs.Range.{InRange}
use Rattle.lift_core.specs.ToolSystems.{IsSign, AreCaps, HasRoomForX0, IsToolSystem, built_system}
use Rattle.lift_core.specs.Lists.{cut_rows}
use Rattle.lift_core.specs.declared.Tool.{Tool}

pub length-cut_rows : (m w : ℕ) (cells : List ℤ) → length (cut_rows m w cells) ≡ m
length-cut_rows zero w cells = refl
length-cut_rows (suc m) w cells = ap suc (length-cut_rows m w (drop w cells))

pub cut_rows-at : (m w j : ℕ) (cells : List ℤ) → j < m → get_or (cut_rows m w cells) j [] ≡ take w (drop (j * w) cells)
cut_rows-at zero w j cells h = absurd (omega arith)
cut_rows-at (suc m) w zero cells h = let e : 0 * w ≡ 0 = omega arith in rw e
cut_rows-at (suc m) w (suc j) cells h =
    let e : w + j * w ≡ suc j * w = omega arith in
    cut_rows-at m w j (drop w cells) (omega arith) ∙ ap (take w) (drop-drop (j * w) w cells ∙ ap (λ n. drop n cells) e)

-- what a slice of the entries, cut at the place of a row, has
pub row_cut : (m w j : ℕ) (cells slice found : List ℤ) (v : ℕ) → j < m → slice ≡ cells → v ≡ w → found ≡ take v (drop (j * v) slice) → found ≡ get_or (cut_rows m w cells) j []
row_cut m w j cells slice found v h s e f = f ∙ ap₂ (λ n l. take n (drop (j * n) l)) e s ∙ sym (cut_rows-at m w j cells h)

next_rows_left : (m w : ℕ) (cells : List ℤ) → length cells ≡ suc m * w → length (drop w cells) ≡ m * w
next_rows_left m w cells h = omega (arith, length-drop w cells)

pub cut_rows-lengths : (m w : ℕ) (cells : List ℤ) → length cells ≡ m * w → All (λ r. length r ≡ w) (cut_rows m w cells)
cut_rows-lengths zero w cells h = All-nil (λ r. length r ≡ w)
cut_rows-lengths (suc m) w cells h =
    All-cons (λ r. length r ≡ w) (take w cells) (cut_rows m w (drop w cells)) (omega (arith, length-take w cells)) (cut_rows-lengths m w (drop w cells) (next_rows_left m w cells h))

cut_rows-same_entries : (m w : ℕ) (a b : List ℤ) → length a ≡ m * w → length b ≡ m * w → cut_rows m w a ≡ cut_rows m w b → a ≡ b
cut_rows-same_entries zero w [] [] h k e = refl
cut_rows-same_entries zero w [] (y ∷ b) h k e = absurd (omega arith)
cut_rows-same_entries zero w (x ∷ a) b h k e = absurd (omega arith)
cut_rows-same_entries (suc m) w a b h k e =
    let first : take w a ≡ take w b = cc in
    let others : cut_rows m w (drop w a) ≡ cut_rows m w (drop w b) = cc in
    sym (take-append-drop w a)
    ∙ ap₂ (λ u v. u ++ v) first (cut_rows-same_entries m w (drop w a) (drop w b) (next_rows_left m w a h) (next_rows_left m w b k) others)
    ∙ take-append-drop w b

-- entries that are cut into the same rows are the same
pub rows_same : (m n w : ℕ) (a b : List ℤ) → length a ≡ m * w → length b ≡ n * w → cut_rows m w a ≡ cut_rows n w b → a ≡ b
rows_same m n w a b h k e =
    let s : m ≡ n = sym (length-cut_rows m w a) ∙ ap length e ∙ length-cut_rows n w b in
    cut_rows-same_entries m w a b h (k ∙ ap (λ i. i * w) (sym s)) (e ∙ ap (λ i. cut_rows i w b) (sym s))

-- the same entries are as many rows
pub same_count : (m n w : ℕ) → 0 < w → m * w ≡ n * w → m ≡ n
same_count m n w h e = sym (mul-div_cancel m {n = w} h) ∙ ap (λ x. x / w) e ∙ mul-div_cancel n {n = w} h

-- what is true of each entry is true of each entry of each row
pub cut_rows-entries : (P : ℤ → Type 0) (m w : ℕ) (cells : List ℤ) → All P cells → All (λ r. All P r) (cut_rows m w cells)
cut_rows-entries P zero w cells h = All-nil (λ r. All P r)
cut_rows-entries P (suc m) w cells h =
    All-cons (λ r. All P r) (take w cells) (cut_rows m w (drop w cells)) (All-take P w cells h) (cut_rows-entries P m w (drop w cells) (All-drop P w cells h))

pub ruleset row_laws = (length-cut_rows, cut_rows-at)

-- the system of these columns and entries is as every one is
pub built_system-fits : (tool : Tool) (n : ℕ) (signs : List ℤ) (caps : List (Option ℕ)) (m : ℕ) (cells : List ℤ) → 1 ≤ n → n ≤ 64 → n ≤ length signs → length signs ≤ 129 → m ≤ 64
    → length cells ≡ m * length signs → All InRange cells → All IsSign signs → length caps ≡ length signs → AreCaps tool n caps → HasRoomForX0 tool n signs
    → IsToolSystem (built_system tool n signs caps m cells)
built_system-fits tool n signs caps m cells some most columns wide few l range known as_many capped x0 = record {
  some_columns = some;
  most_columns = most;
  first_columns = columns;
  most_width = wide;
  most_rows = omega (arith, length-cut_rows m (length signs) cells);
  row_lengths = cut_rows-lengths m (length signs) cells l;
  entries = cut_rows-entries InRange m (length signs) cells range;
  signs = known;
  cap_count = as_many;
  caps = capped;
  x0 = x0;
}

-- entries that are a whole number of rows
pub whole_rows : (x w : ℕ) → x % w ≡ 0 → x ≡ x / w * w
whole_rows x w h = omega (arith, div-add-mod' x w)

pub few_rows : (x w : ℕ) → 0 < w → x ≤ 64 * w → x / w ≤ 64
few_rows x w h k = div-le_of_le-mul w (omega arith)
