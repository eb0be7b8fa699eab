-- A list whose entries are replaced one after another, by those of another list.
use Rattle.std.proofs.Common.{◌≡◌, ℕ, zero, suc, ◌+◌, ◌<◌, ◌≤◌, List, [], ◌∷◌, ◌++◌, length, get_or, take, drop, set, refl, ap, ap₂, sym, ◌∙◌, arith}
use Rattle.std.specs.Prelude.{ℤ, pos, nat_abs, neg_ℤ, ◌*ℤ◌, ◌-ℤ◌}
use Rattle.std.specs.List.{AllByRecursion}
use Rattle.std.proofs.lemmas.Int.{ints}
use Rattle.std.proofs.lemmas.List.{get_or-drop, take_more, take_more_set, take_all}
use Rattle.int_vector.specs.Range.{InRange}
use Rattle.int_vector.specs.Operations.{subtract}
use Rattle.int_vector.specs.Vectors.{IsWithin, ◌⊑◌, negated}
use Rattle.decompose_tool.specs.Walks.{times}

-- the first j entries are those of the one list, and the others those of the other
pub record IsReplaced (old target : List ℤ) (j : ℕ) (out : List ℤ) : Type 0 where
  pub width : length out ≡ length target
  pub done : take j out ≡ take j target
  pub left : drop j out ≡ drop j old

drop-set : (out : List ℤ) (j : ℕ) (x : ℤ) → drop (j + 1) (set out j x) ≡ drop (j + 1) out
drop-set [] zero x = refl
drop-set [] (suc j) x = refl
drop-set (y ∷ out) zero x = refl
drop-set (y ∷ out) (suc j) x = let e : suc j + 1 ≡ suc (j + 1) = omega arith in rw e (drop-set out j x)

length-set_here : (out : List ℤ) (j : ℕ) (x : ℤ) → length (set out j x) ≡ length out
length-set_here [] j x = refl
length-set_here (y ∷ out) zero x = refl
length-set_here (y ∷ out) (suc j) x = ap suc (length-set_here out j x)

drop_again : (xs : List ℤ) (j : ℕ) → drop (j + 1) xs ≡ drop 1 (drop j xs)
drop_again xs zero = refl
drop_again [] (suc j) = let e : suc j + 1 ≡ suc (j + 1) = omega arith in rw e refl
drop_again (x ∷ xs) (suc j) = let e : suc j + 1 ≡ suc (j + 1) = omega arith in rw e (drop_again xs j)

drop_once : (xs ys : List ℤ) (j : ℕ) → drop j xs ≡ drop j ys → drop (j + 1) xs ≡ drop (j + 1) ys
drop_once xs ys j e = drop_again xs j ∙ ap (drop 1) e ∙ sym (drop_again ys j)

pub replaced_at : (old target out : List ℤ) (j : ℕ) → IsReplaced old target j out → get_or out j (pos 0) ≡ get_or old j (pos 0)
replaced_at old target out j h =
    let e : j + 0 ≡ j = omega arith in
    ap (λ k. get_or out k (pos 0)) (sym e) ∙ sym (get_or-drop j out 0 (pos 0)) ∙ ap (λ (l : List ℤ). get_or l 0 (pos 0)) h.left ∙ get_or-drop j old 0 (pos 0) ∙ ap (λ k. get_or old k (pos 0)) e

pub replaced_more : (old target out : List ℤ) (j : ℕ) (x : ℤ) → j < length out → x ≡ get_or target j (pos 0) → IsReplaced old target j out → IsReplaced old target (j + 1) (set out j x)
replaced_more old target out j x l is h = record {
  width = length-set_here out j x ∙ h.width;
  done = take_more_set out j x l ∙ ap₂ (λ (xs : List ℤ) (y : ℤ). xs ++ (y ∷ [])) h.done is ∙ sym (take_more target j (pos 0) (omega (arith, h.width)));
  left = drop-set out j x ∙ drop_once out old j h.left;
}

pub replaced_start : (old target : List ℤ) → length old ≡ length target → IsReplaced old target 0 old
replaced_start old target e = record { width = e; done = refl; left = refl }

pub replaced_all : (old target out : List ℤ) (j : ℕ) → length out ≤ j → IsReplaced old target j out → out ≡ target
replaced_all old target out j l h = sym (take_all j out l) ∙ h.done ∙ take_all j target (omega (arith, h.width))

-- ---- the two lists that are made so
pub length-times_here : (c : ℕ) (u : List ℤ) → length (times c u) ≡ length u
length-times_here c [] = refl
length-times_here c (a ∷ u) = ap suc (length-times_here c u)

pub length-subtract : (v u : List ℤ) → length u ≡ length v → length (subtract v u) ≡ length v
length-subtract [] u e = refl
length-subtract (y ∷ v) [] e = absurd (omega arith)
length-subtract (y ∷ v) (x ∷ u) e = ap suc (length-subtract v u (omega arith))

pub subtract-at : (c : ℕ) (v u : List ℤ) (j : ℕ) → length u ≡ length v → j < length u → get_or (subtract v (times c u)) j (pos 0) ≡ get_or v j (pos 0) -ℤ (pos c *ℤ get_or u j (pos 0))
subtract-at c [] [] j e l = absurd (omega arith)
subtract-at c [] (x ∷ u) j e l = absurd (omega arith)
subtract-at c (y ∷ v) [] j e l = absurd (omega arith)
subtract-at c (y ∷ v) (x ∷ u) zero e l = refl
subtract-at c (y ∷ v) (x ∷ u) (suc j) e l = subtract-at c v u j (omega arith) (omega arith)

pub length-negated_here : (v : List ℤ) → length (negated v) ≡ length v
length-negated_here [] = refl
length-negated_here (x ∷ v) = ap suc (length-negated_here v)

pub negated-at : (v : List ℤ) (j : ℕ) → j < length v → get_or (negated v) j (pos 0) ≡ neg_ℤ (get_or v j (pos 0))
negated-at [] j l = absurd (omega arith)
negated-at (x ∷ v) zero l = refl
negated-at (x ∷ v) (suc j) l = negated-at v j (omega arith)

pub within_at : (c : ℕ) (u rest : List ℤ) (j : ℕ) → times c u ⊑ rest → j < length u → IsWithin (pos c *ℤ get_or u j (pos 0)) (get_or rest j (pos 0))
within_at c [] rest j h l = absurd (omega arith)
within_at c (a ∷ u) [] j h l = absurd h
within_at c (a ∷ u) (r ∷ rest) zero h l = h.0
within_at c (a ∷ u) (r ∷ rest) (suc j) h l = within_at c u rest j h.1 (omega arith)

pub range_at : (v : List ℤ) (j : ℕ) → AllByRecursion InRange v → j < length v → InRange (get_or v j (pos 0))
range_at [] j h l = absurd (omega arith)
range_at (x ∷ v) zero h l = h.0
range_at (x ∷ v) (suc j) h l = range_at v j h.1 (omega arith)

-- what is left of an entry is no larger than it was
pub difference_small : (a r : ℤ) → IsWithin a r → nat_abs (r -ℤ a) ≤ nat_abs r
difference_small a r h = grind (arith, ints, h.same_sign, h.no_larger)

pub negative_small : (x : ℤ) → InRange x → InRange (neg_ℤ x)
negative_small x h = omega (arith, ints, h)

pub range_negated : (v : List ℤ) → AllByRecursion InRange v → AllByRecursion InRange (negated v)
range_negated [] h = tt
range_negated (x ∷ v) h = (negative_small x h.0, range_negated v h.1)
