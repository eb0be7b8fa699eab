-- Vectors of whole numbers, as lists.
use Rattle.std.specs.Prelude.{◌≡◌, ℕ, zero, suc, ◌+◌, ◌≤◌, List, [], ◌∷◌, ℤ, pos, negsuc, ◌+ℤ◌, ◌*ℤ◌, ◌≤ℤ◌, nat_abs, neg_ℤ, map, Bool, true, false}
use Rattle.std.specs.List.{AllZip, AllByRecursion}
use Rattle.std.specs.declared.cmp.Ordering.{Ordering}
use Rattle.std.specs.Ordering.{int_cmp}
use Rattle.std.specs.Cmp.Lexicographic.{slice_cmp}

-- the greatest absolute value that is in range, 2^63-1
abbrev pub largest : ℕ
largest = 9223372036854775807

-- the sum of the absolute values
abbrev pub norm : List ℤ → ℕ
norm [] = 0
norm (x ∷ v) = nat_abs x + norm v

-- the product of a row and a vector
abbrev pub dot : List ℤ → List ℤ → ℤ
dot [] v = pos 0
dot (a ∷ row) [] = pos 0
dot (a ∷ row) (x ∷ v) = a *ℤ x +ℤ dot row v

-- x has no sign against y's, and is no larger
pub record IsWithin (x y : ℤ) : Type 0 where
  pub same_sign : pos 0 ≤ℤ (x *ℤ y)
  pub no_larger : nat_abs x ≤ nat_abs y

-- the conformal order of Graver (1975): as long, and within in each component
infix 45 ◌⊑◌
abbrev pub ◌⊑◌ : List ℤ → List ℤ → Type 0
u ⊑ v = AllZip IsWithin u v

-- each entry is 0
abbrev pub IsZero : List ℤ → Type 0
IsZero v = AllByRecursion (λ x. x ≡ pos 0) v

-- the lexicographic order, by the first component that differs
abbrev pub lex_cmp : List ℤ → List ℤ → Ordering
lex_cmp = slice_cmp int_cmp

-- the negative of a vector
abbrev pub negated : List ℤ → List ℤ
negated v = map neg_ℤ v

-- whether the first entry that is not 0 is negative
abbrev pub leads_negative : List ℤ → Bool
leads_negative [] = false
leads_negative (pos zero ∷ v) = leads_negative v
leads_negative (pos (suc a) ∷ v) = false
leads_negative (negsuc a ∷ v) = true
