-- Sums and signs of vectors.
use Rattle.std.specs.Prelude.{ℕ, zero, suc, List, [], ◌∷◌, ℤ, pos, negsuc, ◌+ℤ◌, ◌-ℤ◌, ◌*ℤ◌, ◌≤ℤ◌, replicate}
use Rattle.std.specs.List.{AllZip}

-- the sum and the difference of two vectors, component by component
abbrev pub add : List ℤ → List ℤ → List ℤ
add [] v = []
add (x ∷ u) [] = []
add (x ∷ u) (y ∷ v) = (x +ℤ y) ∷ add u v

abbrev pub subtract : List ℤ → List ℤ → List ℤ
subtract [] u = []
subtract (y ∷ v) [] = []
subtract (y ∷ v) (x ∷ u) = (y -ℤ x) ∷ subtract v u

-- the sum of a list of vectors of n entries
abbrev pub total : ℕ → List (List ℤ) → List ℤ
total n [] = replicate n (pos 0)
total n (v ∷ vs) = add v (total n vs)

-- no component has opposite signs
abbrev pub AreConformal : List ℤ → List ℤ → Type 0
AreConformal u v = AllZip (λ x y. pos 0 ≤ℤ (x *ℤ y)) u v

-- the first entry that is not 0, and 0 where there is none
abbrev pub leading_entry : List ℤ → ℤ
leading_entry [] = pos 0
leading_entry (pos zero ∷ v) = leading_entry v
leading_entry (pos (suc n) ∷ v) = pos (suc n)
leading_entry (negsuc n ∷ v) = negsuc n

-- 1, 0 or -1, where the number is above, equal to or below 0
abbrev pub sign : ℤ → ℤ
sign (pos zero) = pos 0
sign (pos (suc n)) = pos 1
sign (negsuc n) = negsuc 0
