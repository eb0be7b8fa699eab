-- The reader finds a table exactly where the text spells one within the limits, whatever the cells are.
-- Each way goes step by step along the reader's definition; the only recursion is on the cells.
use Rattle.std.proofs.Common.{◌≡◌, ◌≤◌, ◌*◌, ℕ, zero, suc, Bool, true, false, cond, eqb, nat_le, Option, Some, None, List, [], ◌∷◌, length, map, Result, IfOk, Ok, Err, refl, sym, ap, subst, ◌∙◌, arith}
use Rattle.std.proofs.lemmas.Bool.{leb-true, eqb-false, le-leb, cond-true, cond-false, ne_eqb}
use Rattle.std.specs.List.{AllByRecursion}
use Rattle.mat_files.specs.Words.{Word, words_of, count_value}
use Rattle.mat_files.specs.Tables.{Table, cells_at, count_at, count_in_range, next_count, up_to, not_zero, counts_at, table_of, ◌>>=◌}
use Rattle.int_vector.specs.Vectors.{largest}
use Rattle.mat_files.specs.Answers.{Gives}
use Rattle.mat_files.specs.Grammar.{IsTableText, IsTableWithin}
use Rattle.mat_files.specs.declared.faults.TextEnd.{TextEnd}
use Rattle.mat_files.specs.declared.faults.TextFault.{TextFault}
use Rattle.mat_files.specs.declared.faults.TextFault.TheVariants.{OutOfRange, TooManyRows, TooManyCols, NoCols}

-- the reader of one cell answers a value exactly where the word spells one that may stand there
pub record ReadsCells {C : Type 0} (value : List ℕ → Option C) (IsAllowed : C → Type 0) (cell_at : Word → Result C TextFault) : Type 0 where
  pub only : (w : Word) (x : C) → value w.bytes ≡ Some x → IsAllowed x → cell_at w ≡ Ok x
  pub found : (w : Word) (x : C) → cell_at w ≡ Ok x → (value w.bytes ≡ Some x) × IsAllowed x

bind_ok : {A B : Type 0} (r : Result A TextFault) (f : A → Result B TextFault) (y : B) → (r >>= f) ≡ Ok y → (x : A) × ((r ≡ Ok x) × (f x ≡ Ok y))
bind_ok (Ok x) f y e = (x, (refl, e))
bind_ok (Err d) f y e = cc

abbrev Counts : Type 0
Counts = ℕ × (ℕ × List Word)

-- the reader's steps, one behind another
abbrev with_words : List Word → ℕ → Result (ℕ × List Word) TextFault
with_words ws n = Ok (n, ws)

abbrev counted : ℕ → List Word → ℕ → Result Counts TextFault
counted rows ws cols = Ok (rows, (cols, ws))

abbrev from_cols : ℕ → ℕ → ℕ × List Word → Result Counts TextFault
from_cols max_cols rows second = up_to max_cols (TooManyCols second.0) second.0 >>= λ some. not_zero some >>= counted rows second.1

abbrev from_rows : ℕ → ℕ → ℕ → ℕ × List Word → Result Counts TextFault
from_rows max_rows max_cols len first = up_to max_rows (TooManyRows first.0) first.0 >>= λ rows. next_count len first.1 >>= from_cols max_cols rows

-- the text is read: a count in range is its number
read_count : (w : Word) (n : ℕ) → count_value w.bytes ≡ Some n → n ≤ largest → count_at w ≡ Ok n
read_count w n e small = ap (count_in_range w) e ∙ cond-true _ _ _ (le-leb n largest small)

-- both counts are read
read_counts : (max_rows max_cols len rows cols : ℕ) (rows_word cols_word : Word) (ws : List Word) → rows ≤ largest → cols ≤ largest → rows ≤ max_rows → cols ≤ max_cols → 1 ≤ cols →
    count_value rows_word.bytes ≡ Some rows → count_value cols_word.bytes ≡ Some cols →
    counts_at max_rows max_cols len (rows_word ∷ cols_word ∷ ws) ≡ Ok (rows, (cols, ws))
read_counts max_rows max_cols len rows cols rows_word cols_word ws small_rows small_cols few_rows few_cols wide rows_is cols_is =
    let not_none : cols ≡ 0 → ⊥ = λ z. omega (arith, wide, z) in
    ap (λ (r : Result ℕ TextFault). (r >>= with_words (cols_word ∷ ws)) >>= from_rows max_rows max_cols len) (read_count rows_word rows rows_is small_rows)
    ∙ ap (λ (r : Result ℕ TextFault). r >>= λ k. next_count len (cols_word ∷ ws) >>= from_cols max_cols k)
    (cond-true (nat_le rows max_rows) (Ok rows) (Err (TooManyRows rows)) (le-leb rows max_rows few_rows))
    ∙ ap (λ (r : Result ℕ TextFault). (r >>= with_words ws) >>= from_cols max_cols rows) (read_count cols_word cols cols_is small_cols)
    ∙ ap (λ (r : Result ℕ TextFault). r >>= λ some. not_zero some >>= counted rows ws)
    (cond-true (nat_le cols max_cols) (Ok cols) (Err (TooManyCols cols)) (le-leb cols max_cols few_cols))
    ∙ ap (λ (r : Result ℕ TextFault). r >>= counted rows ws) (cond-false _ (Err NoCols) (Ok cols) (ne_eqb cols 0 not_none))

-- what a step that passed says, and what follows it
count-then : {B : Type 0} (w : Word) (o : Option ℕ) (f : ℕ → Result B TextFault) (y : B) → (count_in_range w o >>= f) ≡ Ok y → (n : ℕ) × ((o ≡ Some n) × (f n ≡ Ok y))
count-then w None f y e = cc
count-then {B} w (Some n) f y e = go (nat_le n largest) e where
  go : (t : Bool) → (cond t (Ok n) (Err (OutOfRange w.at)) >>= f) ≡ Ok y → (k : ℕ) × ((Some n ≡ Some k) × (f k ≡ Ok y))
  go true h = (n, (refl, h))
  go false h = cc

up_to-then : {B : Type 0} (limit n : ℕ) (fault : TextFault) (f : ℕ → Result B TextFault) (y : B) → (up_to limit fault n >>= f) ≡ Ok y → (n ≤ limit) × (f n ≡ Ok y)
up_to-then {B} limit n fault f y e = go (nat_le n limit) refl e where
  go : (t : Bool) → t ≡ nat_le n limit → (cond t (Ok n) (Err fault) >>= f) ≡ Ok y → (n ≤ limit) × (f n ≡ Ok y)
  go true t h = (leb-true n limit (sym t), h)
  go false t h = cc

above_zero : (n : ℕ) → (n ≡ 0 → ⊥) → 1 ≤ n
above_zero zero h = absurd (h refl)
above_zero (suc n) h = omega arith

not_zero-then : {B : Type 0} (n : ℕ) (f : ℕ → Result B TextFault) (y : B) → (not_zero n >>= f) ≡ Ok y → (1 ≤ n) × (f n ≡ Ok y)
not_zero-then {B} n f y e = go (eqb n 0) refl e where
  go : (t : Bool) → t ≡ eqb n 0 → (cond t (Err NoCols) (Ok n) >>= f) ≡ Ok y → (1 ≤ n) × (f n ≡ Ok y)
  go true t h = cc
  go false t h = (above_zero n (eqb-false n 0 (sym t)), h)

-- the word that a count was read from, and what follows it
record ReadsCount {B : Type 0} (ws : List Word) (f : ℕ × List Word → Result B TextFault) (y : B) : Type 0 where
  word : Word
  rest : List Word
  count : ℕ
  words : ws ≡ word ∷ rest
  value : count_value word.bytes ≡ Some count
  follows : f (count, rest) ≡ Ok y

next-then : {B : Type 0} (len : ℕ) (ws : List Word) (f : ℕ × List Word → Result B TextFault) (y : B) → (next_count len ws >>= f) ≡ Ok y → ReadsCount ws f y
next-then len [] f y e = cc
next-then len (w ∷ ws) f y e =
    let whole = bind_ok (count_at w >>= with_words ws) f y e in
    let read = count-then w (count_value w.bytes) (with_words ws) whole.0 whole.1.0 in
    let pair : ◌≡◌ {A = ℕ × List Word} whole.0 (read.0, ws) = sym (cc read.1.1) in
    record { word = w; rest = ws; count = read.0; words = refl; value = read.1.0; follows = ap f (sym pair) ∙ whole.1.1 }

-- the words that two counts were read from
record ReadsCounts (max_rows max_cols : ℕ) (ws : List Word) (c : Counts) : Type 0 where
  first : Word
  second : Word
  words : ws ≡ first ∷ second ∷ c.1.1
  rows : count_value first.bytes ≡ Some c.0
  cols : count_value second.bytes ≡ Some c.1.0
  rows_few : c.0 ≤ max_rows
  cols_few : c.1.0 ≤ max_cols
  wide : 1 ≤ c.1.0

counts-back : (max_rows max_cols len : ℕ) (ws : List Word) (c : Counts) → counts_at max_rows max_cols len ws ≡ Ok c → ReadsCounts max_rows max_cols ws c
counts-back max_rows max_cols len ws c e =
    let a = next-then len ws (from_rows max_rows max_cols len) c e in
    let b = up_to-then max_rows a.count (TooManyRows a.count) (λ rows. next_count len a.rest >>= from_cols max_cols rows) c a.follows in
    let d = next-then len a.rest (from_cols max_cols a.count) c b.1 in
    let f = up_to-then max_cols d.count (TooManyCols d.count) (λ some. not_zero some >>= counted a.count d.rest) c d.follows in
    let g = not_zero-then d.count (counted a.count d.rest) c f.1 in
    let is : ◌≡◌ {A = Counts} (a.count, (d.count, d.rest)) c = cc g.1 in
    subst (λ (k : Counts). ReadsCounts max_rows max_cols ws k) is (record {
      first = a.word;
      second = d.word;
      words = a.words ∙ ap (λ r. a.word ∷ r) d.words;
      rows = a.value;
      cols = d.value;
      rows_few = b.0;
      cols_few = f.0;
      wide = g.0;
    })

module _ {C : Type 0} (value : List ℕ → Option C) (IsAllowed : C → Type 0) (cell_at : Word → Result C TextFault) (reads : ReadsCells value IsAllowed cell_at) where
  abbrev from_counts : ℕ → Counts → Result (Table C) TextFault
  from_counts len c = cells_at cell_at (c.0 * c.1.0) len c.1.1 >>= λ xs. Ok (record { rows = c.0; cols = c.1.0; cells = xs })

  read_cells : (len : ℕ) (ws : List Word) (xs : List C) → map (λ w. value w.bytes) ws ≡ map Some xs → AllByRecursion IsAllowed xs → cells_at cell_at (length xs) len ws ≡ Ok xs
  read_cells len [] [] e allowed = refl
  read_cells len [] (x ∷ xs) e allowed = cc
  read_cells len (w ∷ ws) [] e allowed = cc
  read_cells len (w ∷ ws) (x ∷ xs) e allowed =
      let here : value w.bytes ≡ Some x = cc in
      let behind : map (λ w. value w.bytes) ws ≡ map Some xs = cc in
      ap (λ (r : Result C TextFault). r >>= λ y. cells_at cell_at (length xs) len ws >>= λ ys. Ok (y ∷ ys)) (reads.only w x here allowed.0)
      ∙ ap (λ (r : Result (List C) TextFault). r >>= λ ys. Ok (x ∷ ys)) (read_cells len ws xs behind allowed.1)

  -- a text of a table within the limits is read as that table
  pub table_of-text : (max_rows max_cols : ℕ) (text : List ℕ) (t : Table C) → t.rows ≤ largest → t.cols ≤ largest →
      IsTableText value text t → IsTableWithin IsAllowed max_rows max_cols t → table_of cell_at max_rows max_cols text ≡ Ok t
  table_of-text max_rows max_cols text t small_rows small_cols spelled within =
      let len = length text in
      let counts : counts_at max_rows max_cols len (spelled.rows_word ∷ spelled.cols_word ∷ spelled.cell_words) ≡ Ok (t.rows, (t.cols, spelled.cell_words)) =
      read_counts max_rows max_cols len t.rows t.cols spelled.rows_word spelled.cols_word spelled.cell_words small_rows small_cols within.rows within.cols within.wide spelled.rows spelled.cols in
      let cells : cells_at cell_at (t.rows * t.cols) len spelled.cell_words ≡ Ok t.cells =
      ap (λ n. cells_at cell_at n len spelled.cell_words) (sym spelled.count) ∙ read_cells len spelled.cell_words t.cells spelled.cells within.allowed in
      ap (λ ws. counts_at max_rows max_cols len ws >>= from_counts len) spelled.words
      ∙ ap (λ (r : Result Counts TextFault). r >>= from_counts len) counts
      ∙ ap (λ (r : Result (List C) TextFault). r >>= λ xs. Ok (record { rows = t.rows; cols = t.cols; cells = xs })) cells

  -- so many cells were read, each of them allowed, and their words spell them
  cells-back : (n len : ℕ) (ws : List Word) (xs : List C) → cells_at cell_at n len ws ≡ Ok xs →
      (map (λ w. value w.bytes) ws ≡ map Some xs) × (length xs ≡ n) × AllByRecursion IsAllowed xs
  cells-back zero len [] xs e =
      let nil : [] ≡ xs = cc e in subst (λ (ys : List C). ([] ≡ map Some ys) × (length ys ≡ 0) × AllByRecursion IsAllowed ys) nil (refl, refl, tt)
  cells-back zero len (w ∷ ws) xs e = cc
  cells-back (suc n) len [] xs e = cc
  cells-back (suc n) len (w ∷ ws) xs e =
      let first = bind_ok (cell_at w) (λ y. cells_at cell_at n len ws >>= λ ys. Ok (y ∷ ys)) xs e in
      let rest = bind_ok (cells_at cell_at n len ws) (λ ys. Ok (first.0 ∷ ys)) xs first.1.1 in
      let here = reads.found w first.0 first.1.0 in
      let behind = cells-back n len ws rest.0 rest.1.0 in
      let is : first.0 ∷ rest.0 ≡ xs = cc rest.1.1 in
      subst (λ (ys : List C). (map (λ w. value w.bytes) (w ∷ ws) ≡ map Some ys) × (length ys ≡ suc n) × AllByRecursion IsAllowed ys) is
      ((λ i. here.0 i ∷ behind.0 i), ap suc behind.1, (here.1, behind.2))

  -- what is read is spelled so, within the limits
  pub text-table_of : (max_rows max_cols : ℕ) (text : List ℕ) (t : Table C) → table_of cell_at max_rows max_cols text ≡ Ok t →
      IsTableText value text t × IsTableWithin IsAllowed max_rows max_cols t
  text-table_of max_rows max_cols text t e =
      let len = length text in
      let c = bind_ok (counts_at max_rows max_cols len (words_of text)) (from_counts len) t e in
      let r = counts-back max_rows max_cols len (words_of text) c.0 c.1.0 in
      let z = bind_ok (cells_at cell_at (c.0.0 * c.0.1.0) len c.0.1.1) (λ xs. Ok (record { rows = c.0.0; cols = c.0.1.0; cells = xs })) t c.1.1 in
      let b = cells-back (c.0.0 * c.0.1.0) len c.0.1.1 z.0 z.1.0 in
      let is : record { rows = c.0.0; cols = c.0.1.0; cells = z.0 } ≡ t = cc z.1.1 in
      subst (λ (k : Table C). IsTableText value text k × IsTableWithin IsAllowed max_rows max_cols k) is (
        record {
          rows_word = r.first;
          cols_word = r.second;
          cell_words = c.0.1.1;
          words = r.words;
          rows = r.rows;
          cols = r.cols;
          cells = b.0;
          count = b.1;
        },
        record { rows = r.rows_few; cols = r.cols_few; wide = r.wide; allowed = b.2 },
      )

  -- the reader's answer, said by the grammar
  pub found_from : {X : Type 0} (view : X → Table C) (r : Result X TextEnd) (max_rows max_cols : ℕ) (text : List ℕ) → Gives view r (table_of cell_at max_rows max_cols text) →
      IfOk r (λ x. IsTableText value text (view x) × IsTableWithin IsAllowed max_rows max_cols (view x))
  found_from view (Ok x) max_rows max_cols text e = text-table_of max_rows max_cols text (view x) e
  found_from view (Err f) max_rows max_cols text e = tt

  pub only_from : {X : Type 0} (view : X → Table C) (r : Result X TextEnd) (max_rows max_cols : ℕ) (text : List ℕ) → max_rows ≤ largest → max_cols ≤ largest →
      Gives view r (table_of cell_at max_rows max_cols text) →
      (t : Table C) → IsTableText value text t → IsTableWithin IsAllowed max_rows max_cols t → Gives view r (Ok t)
  only_from view r max_rows max_cols text few_rows few_cols e t spelled within =
      let rows : t.rows ≤ largest = omega (arith, within.rows, few_rows) in
      let cols : t.cols ≤ largest = omega (arith, within.cols, few_cols) in
      subst (Gives view r) (table_of-text max_rows max_cols text t rows cols spelled within) e
