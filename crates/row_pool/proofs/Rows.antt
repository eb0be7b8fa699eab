-- Rows of one width among cells: how many there are, the one at a place, the first ones, and those of two lists of
-- cells put together. Each lemma goes by the number of rows, one width of cells at a time.
use Rattle.std.proofs.Common.{◌≡◌, ℕ, ℤ, zero, suc, ◌+◌, ◌-◌, ◌*◌, ◌<◌, ◌≤◌, List, [], ◌∷◌, ◌++◌, length, take, drop, get_or, sym, refl, ap, ◌∙◌, arith, length-drop, length-append}
use Rattle.std.proofs.lemmas.List.{take-append-le, drop-append-le, take_all, drop-take, length-take-le}
use Rattle.std.proofs.lemmas.List.Elements.{All-take, All-append}
use Rattle.std.proofs.lemmas.Grind.{common_steps}
use Rattle.row_pool.specs.Rows.{rows_of}

pub length-rows_of : (n w : ℕ) (cells : List ℤ) → length (rows_of n w cells) ≡ n
length-rows_of zero w cells = refl
length-rows_of (suc n) w cells = let r = length-rows_of n w (drop w cells) in omega arith

pub times_suc : (n w : ℕ) → suc n * w ≡ n * w + w
times_suc n w = omega arith

pub zero_times : (w : ℕ) → 0 * w ≡ 0
zero_times w = omega arith

nil_of : (cells : List ℤ) → length cells ≡ 0 → cells ≡ []
nil_of [] e = refl
nil_of (x ∷ xs) e = absurd (omega arith)

cons_same : (x y : List ℤ) (xs ys : List (List ℤ)) → x ≡ y → xs ≡ ys → x ∷ xs ≡ y ∷ ys
cons_same x y xs ys e f = λ i. e i ∷ f i

drop_drop : (a b : ℕ) (xs : List ℤ) → drop a (drop b xs) ≡ drop (b + a) xs
drop_drop a b xs = grind (arith, common_steps)

pub rows_of-append : (n m k w : ℕ) (cells others : List ℤ) → k ≡ n + m → length cells ≡ n * w → rows_of k w (cells ++ others) ≡ rows_of n w cells ++ rows_of m w others
rows_of-append zero m k w cells others e l =
    let z = zero_times w in
    let none : cells ≡ [] = nil_of cells (omega arith) in
    let same : k ≡ m = omega arith in
    ap (λ (j : ℕ). rows_of j w (cells ++ others)) same ∙ ap (λ (c : List ℤ). rows_of m w (c ++ others)) none
rows_of-append (suc n) m zero w cells others e l = absurd (omega arith)
rows_of-append (suc n) m (suc k) w cells others e l =
    let s = times_suc n w in
    let d : drop w (cells ++ others) ≡ drop w cells ++ others = drop-append-le w cells others (omega arith) in
    let len : length (drop w cells) ≡ n * w = omega (arith, length-drop w cells) in
    cons_same (take w (cells ++ others)) (take w cells) (rows_of k w (drop w (cells ++ others))) (rows_of n w (drop w cells) ++ rows_of m w others)
    (take-append-le w cells others (omega arith))
    (ap (λ (c : List ℤ). rows_of k w c) d ∙ rows_of-append n m k w (drop w cells) others (omega arith) len)

pub rows_of-snoc : (n k w : ℕ) (cells row : List ℤ) → k ≡ n + 1 → length cells ≡ n * w → length row ≡ w → rows_of k w (cells ++ row) ≡ rows_of n w cells ++ row ∷ []
rows_of-snoc n k w cells row e l h = rows_of-append n 1 k w cells row e l ∙ ap (λ (r : List ℤ). rows_of n w cells ++ r ∷ []) (take_all w row (omega arith))

pub rows_of-get : (n w : ℕ) (cells : List ℤ) (i : ℕ) (d : List ℤ) → i < n → get_or (rows_of n w cells) i d ≡ take w (drop (i * w) cells)
rows_of-get zero w cells i d h = absurd (omega arith)
rows_of-get (suc n) w cells zero d h = ap (λ (k : ℕ). take w (drop k cells)) (sym (zero_times w))
rows_of-get (suc n) w cells (suc i) d h =
    let s : w + i * w ≡ suc i * w = omega (arith, times_suc i w) in
    rows_of-get n w (drop w cells) i d (omega arith) ∙ (ap (λ (c : List ℤ). take w c) (drop_drop (i * w) w cells) ∙ ap (λ (k : ℕ). take w (drop k cells)) s)

pub rows_of-take : (n m w : ℕ) (cells : List ℤ) → m ≤ n → rows_of m w (take (m * w) cells) ≡ take m (rows_of n w cells)
rows_of-take n zero w cells h = refl
rows_of-take zero (suc m) w cells h = absurd (omega arith)
rows_of-take (suc n) (suc m) w cells h =
    let s : suc m * w ≡ w + m * w = omega (arith, times_suc m w) in
    let r = rows_of-take n m w (drop w cells) (omega arith) in
    cons_same (take w (take (suc m * w) cells)) (take w cells) (rows_of m w (drop w (take (suc m * w) cells))) (take m (rows_of n w (drop w cells)))
    (ap (λ (k : ℕ). take w (take k cells)) s ∙ (let q : take w (take (w + m * w) cells) ≡ take w cells = grind (arith, common_steps) in q))
    (ap (λ (k : ℕ). rows_of m w (drop w (take k cells))) s ∙ (ap (λ (c : List ℤ). rows_of m w c) (drop-take w (m * w) cells) ∙ r))

pub fewer : (a b w : ℕ) → a ≤ b → a * w ≤ b * w
fewer a b w h = grind arith

pub row_ends : (i n w : ℕ) → i < n → i * w + w ≤ n * w
row_ends i n w h = let f = fewer (suc i) n w h in let t = times_suc i w in omega arith

split : (a d s w : ℕ) → a * w + (s + d) * w ≡ (a + d) * w + s * w
split a d s w = omega arith

pub split_rows : (a n s w : ℕ) → a ≤ n → a * w + (s + (n - a)) * w ≡ n * w + s * w
split_rows a n s w h = let e : a + (n - a) ≡ n = omega arith in split a (n - a) s w ∙ ap (λ (k : ℕ). k * w + s * w) e

pub less_spare : (s m w : ℕ) → m ≤ s → (s - m) * w + m * w ≡ s * w
less_spare s m w h =
    let e : s - m + m ≡ s = omega arith in
    let d : (s - m) * w + m * w ≡ (s - m + m) * w = omega arith in
    d ∙ ap (λ (k : ℕ). k * w) e

-- what a call rests on that gives a row or makes room for one more, that keeps the first rows, that appends many
pub ruleset row_laws = (length-rows_of, rows_of-snoc, rows_of-get, row_ends, fewer)

pub ruleset cut_laws = (length-rows_of, rows_of-take, fewer, split_rows, length-take-le, All-take)

pub ruleset join_laws = (length-rows_of, rows_of-append, fewer, less_spare, length-append, All-append)
