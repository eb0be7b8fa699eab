-- How often a number stands in a list, and sums over lists.
use Rattle.std.specs.Prelude.{◌≡◌, ℕ, ◌+◌, ◌≤◌, List, [], ◌∷◌, Bool, true, false, eqb, ltb}

abbrev pub one_if : Bool → ℕ
one_if true = 1
one_if false = 0

-- how often x stands in the list
abbrev pub times : ℕ → List ℕ → ℕ
times x [] = 0
times x (y ∷ ys) = one_if (eqb x y) + times x ys

-- f of each, added up
abbrev pub total_of : {V : Type 0} → (V → ℕ) → List V → ℕ
total_of f [] = 0
total_of f (v ∷ vs) = f v + total_of f vs

-- 1 where x is below n, else 0
abbrev pub once_below : ℕ → ℕ → ℕ
once_below x n = one_if (ltb x n)

-- no number of the list is n or more
abbrev pub AllUnder : List ℕ → ℕ → Type 0
AllUnder xs n = (y : ℕ) → n ≤ y → times y xs ≡ 0
