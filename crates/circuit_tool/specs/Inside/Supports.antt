-- Supports as numbers, a bit for each column, and the rows that are kept by them.
use Rattle.std.specs.Prelude.{◌≡◌, ℕ, zero, suc, ◌+◌, ◌*◌, ◌==◌, ◌&&◌, not, Bool, true, List, [], ◌∷◌, ◌++◌, ℤ, pos, negsuc, bit_and, if◌then◌else◌, Contains}
use Rattle.std.specs.List.{list_any}

-- 1 for an entry that is not 0
abbrev pub bit_of : ℤ → ℕ
bit_of (pos zero) = 0
bit_of (pos (suc n)) = 1
bit_of (negsuc n) = 1

-- the bits of the entries, behind those of a number
abbrev pub word_from : ℕ → List ℤ → ℕ
word_from n [] = n
word_from n (x ∷ v) = word_from (2 * n + bit_of x) v

abbrev pub word_of : List ℤ → ℕ
word_of v = word_from 0 v

abbrev pub is_within : ℕ → ℕ → Bool
is_within a b = bit_and a b == a

abbrev pub is_strictly_within : ℕ → ℕ → Bool
is_strictly_within a b = is_within a b && not (a == b)

-- the words of the nonzero rows
abbrev pub words_in : List (List ℤ) → List ℕ
words_in [] = []
words_in (r ∷ rows) = if word_of r == 0 then words_in rows else word_of r ∷ words_in rows

-- the kept words, and of these words, one after another, those in which no kept one lies
abbrev pub least_from : List ℕ → List ℕ → List ℕ
least_from kept [] = kept
least_from kept (w ∷ words) =
    least_from (if list_any (λ k. is_within k w) kept then kept else kept ++ w ∷ []) words

-- some of the words: in each word one of them lies
pub record AreLeast (words kept : List ℕ) : Type 0 where
  pub among : (k : ℕ) → Contains kept k → Contains words k
  pub below : (w : ℕ) → Contains words w → (k : ℕ) × Contains kept k × (is_within k w ≡ true)

-- whether a row is not zero, and none of the words is strictly within its own
abbrev pub is_kept : List ℕ → List ℤ → Bool
is_kept least v =
    not (word_of v == 0) && not (list_any (λ k. is_strictly_within k (word_of v)) least)
