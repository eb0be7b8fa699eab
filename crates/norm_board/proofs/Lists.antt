-- Sums over a list of passes, where one place changes, and blocks past those that were found.
use Rattle.std.proofs.Common.{◌≡◌, ◌≢◌, ℕ, zero, suc, ◌+◌, ◌<◌, ◌≤◌, List, [], ◌∷◌, ◌++◌, Bool, cond, eqb, set, sym, refl, ap, ◌∙◌, arith, eq-eqb, ne_eqb}
use mathlib.Core.Logic.{dite}
use mathlib.Core.Option.{some, some-injective, some-ne-none}
use native.Mathlib.Decide.{ℕ_discrete, dec_le}
use lib.ListN.{get_elem?}
use Rattle.lift_core.specs.Times.{one_if, times, total_of}
use Rattle.norm_board.specs.Rule.{past}

suc_zero : (j : ℕ) → suc j ≡ zero → ⊥
suc_zero j k = omega arith

suc_same : (i j : ℕ) → suc i ≡ suc j → i ≡ j
suc_same i j k = omega arith

module _ {V : Type 0} where
  pub total-set : (f : V → ℕ) (vs : List V) (i : ℕ) (v w : V) → get_elem? vs i ≡ some v → total_of f (set vs i w) + f v ≡ total_of f vs + f w
  total-set f [] i v w e = absurd (some-ne-none v (sym e))
  total-set f (x ∷ xs) zero v w e = let is : f x ≡ f v = ap f (some-injective x v e) in omega arith
  total-set f (x ∷ xs) (suc i) v w e = let r = total-set f xs i v w e in omega arith

  pub total-snoc : (f : V → ℕ) (vs : List V) (w : V) → total_of f (vs ++ w ∷ []) ≡ total_of f vs + f w
  total-snoc f [] w = omega arith
  total-snoc f (x ∷ xs) w = let r = total-snoc f xs w in omega arith

  -- one is at most all
  pub total_holds : (f : V → ℕ) (vs : List V) (i : ℕ) (v : V) → get_elem? vs i ≡ some v → f v ≤ total_of f vs
  total_holds f [] i v e = absurd (some-ne-none v (sym e))
  total_holds f (x ∷ xs) zero v e = let is : f x ≡ f v = ap f (some-injective x v e) in omega arith
  total_holds f (x ∷ xs) (suc i) v e = let r = total_holds f xs i v e in omega arith

  pub total_le : (f g : V → ℕ) (vs : List V) → ((v : V) → f v ≤ g v) → total_of f vs ≤ total_of g vs
  total_le f g [] h = omega arith
  total_le f g (x ∷ xs) h = let r = total_le f g xs h in let a = h x in omega arith

  pub total_zero : (f : V → ℕ) (vs : List V) → ((i : ℕ) (v : V) → get_elem? vs i ≡ some v → f v ≡ 0) → total_of f vs ≡ 0
  total_zero f [] h = refl
  total_zero f (x ∷ xs) h = let a = h zero x refl in let r = total_zero f xs (λ i v e. h (suc i) v e) in omega arith

  -- two different ones are together at most all
  pub total_two : (f : V → ℕ) (vs : List V) (i j : ℕ) (v w : V) → i ≢ j → get_elem? vs i ≡ some v → get_elem? vs j ≡ some w → f v + f w ≤ total_of f vs
  total_two f [] i j v w ne e g = absurd (some-ne-none v (sym e))
  total_two f (x ∷ xs) zero zero v w ne e g = absurd (ne refl)
  total_two f (x ∷ xs) zero (suc j) v w ne e g = let is : f x ≡ f v = ap f (some-injective x v e) in let r = total_holds f xs j w g in omega arith
  total_two f (x ∷ xs) (suc i) zero v w ne e g = let is : f x ≡ f w = ap f (some-injective x w g) in let r = total_holds f xs i v e in omega arith
  total_two f (x ∷ xs) (suc i) (suc j) v w ne e g = let r = total_two f xs i j v w (λ h. ne (ap suc h)) e g in omega arith

  -- where the total is not 0, one is not 0
  pub total_some : (f : V → ℕ) (vs : List V) → 0 < total_of f vs → (i : ℕ) × (v : V) × (get_elem? vs i ≡ some v) × (0 < f v)
  total_some f [] h = absurd (omega arith)
  total_some f (x ∷ xs) h = dite (dec_le 1 (f x))
      (λ yes. (zero, x, refl, yes))
      (λ no. let r = total_some f xs (omega arith) in (suc r.0, r.1, r.2, r.3))

  -- where f is at most g at each, the others' f is at most the others' g
  pub total_le_at : (f g : V → ℕ) (vs : List V) → ((i : ℕ) (v : V) → get_elem? vs i ≡ some v → f v ≤ g v) → total_of f vs ≤ total_of g vs
  total_le_at f g [] h = omega arith
  total_le_at f g (x ∷ xs) h = let a = h zero x refl in let r = total_le_at f g xs (λ i v e. h (suc i) v e) in omega arith

  pub total_le_others : (f g : V → ℕ) (vs : List V) → ((i : ℕ) (v : V) → get_elem? vs i ≡ some v → f v ≤ g v) → (i : ℕ) (v : V) → get_elem? vs i ≡ some v → total_of f vs + g v ≤ total_of g vs + f v
  total_le_others f g [] h i v e = absurd (some-ne-none v (sym e))
  total_le_others f g (x ∷ xs) h zero v e = let a : f x ≡ f v = ap f (some-injective x v e) in let b : g x ≡ g v = ap g (some-injective x v e) in
      let r = total_le_at f g xs (λ i v e. h (suc i) v e) in omega arith
  total_le_others f g (x ∷ xs) h (suc i) v e = let a = h zero x refl in let r = total_le_others f g xs (λ i v e. h (suc i) v e) i v e in omega arith

  -- where all others are 0, one is all
  pub total_alone : (f : V → ℕ) (vs : List V) (i : ℕ) (v : V) → get_elem? vs i ≡ some v → ((j : ℕ) (w : V) → j ≢ i → get_elem? vs j ≡ some w → f w ≡ 0) → total_of f vs ≡ f v
  total_alone f [] i v e h = absurd (some-ne-none v (sym e))
  total_alone f (x ∷ xs) zero v e h = let a : f x ≡ f v = ap f (some-injective x v e) in let r = total_zero f xs (λ j w g. h (suc j) w (λ k. suc_zero j k) g) in omega arith
  total_alone f (x ∷ xs) (suc i) v e h = let a = h zero x (λ k. suc_zero i (sym k)) refl in let r = total_alone f xs i v e (λ j w ne g. h (suc j) w (λ k. ne (suc_same j i k)) g) in omega arith

-- of the blocks past the found ones
past_here : (found : List ℕ) (y : ℕ) (ys : List ℕ) → times y found ≡ 0 → past found (y ∷ ys) ≡ y ∷ past found ys
past_here found y ys e = ap (λ (b : Bool). cond b (y ∷ past found ys) (past found ys)) (eq-eqb (times y found) 0 e)

past_gone : (found : List ℕ) (y : ℕ) (ys : List ℕ) → times y found ≢ 0 → past found (y ∷ ys) ≡ past found ys
past_gone found y ys e = ap (λ (b : Bool). cond b (y ∷ past found ys) (past found ys)) (ne_eqb (times y found) 0 e)

pub times-past : (x : ℕ) (found blocks : List ℕ) → times x found ≡ 0 → times x (past found blocks) ≡ times x blocks
times-past x found [] z = refl
times-past x found (y ∷ ys) z = let r = times-past x found ys z in dite (ℕ_discrete (times y found) 0)
    (λ no. ap (times x) (past_here found y ys no) ∙ ap (λ (k : ℕ). one_if (eqb x y) + k) r)
    (λ yes. let ne : x ≢ y = λ e. yes (sym (ap (λ (k : ℕ). times k found) e) ∙ z) in let o : one_if (eqb x y) ≡ 0 = ap one_if (ne_eqb x y ne) in
    ap (times x) (past_gone found y ys yes) ∙ (let k : times x (past found ys) ≡ one_if (eqb x y) + times x ys = omega arith in k))

pub times-past_found : (x : ℕ) (found blocks : List ℕ) → times x found ≢ 0 → times x (past found blocks) ≡ 0
times-past_found x found [] z = refl
times-past_found x found (y ∷ ys) z = let r = times-past_found x found ys z in dite (ℕ_discrete (times y found) 0)
    (λ no. let ne : x ≢ y = λ e. z (ap (λ (k : ℕ). times k found) e ∙ no) in let o : one_if (eqb x y) ≡ 0 = ap one_if (ne_eqb x y ne) in
    ap (times x) (past_here found y ys no) ∙ (let k : one_if (eqb x y) + times x (past found ys) ≡ 0 = omega arith in k))
    (λ yes. ap (times x) (past_gone found y ys yes) ∙ r)

-- each of the blocks is among the found ones
past_all : (found blocks : List ℕ) → ((y : ℕ) → 0 < times y blocks → times y found ≢ 0) → past found blocks ≡ []
past_all found [] h = refl
past_all found (y ∷ ys) h = past_gone found y ys (h y (let s : one_if (eqb y y) ≡ 1 = ap one_if (eq-eqb y y refl) in omega arith))
    ∙ past_all found ys (λ z k. h z (omega arith))

pub past_self : (found : List ℕ) → past found found ≡ []
past_self found = past_all found found (λ y h e. omega arith)
