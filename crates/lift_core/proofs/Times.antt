-- Counts in lists, and sums over lists where one place changes.
use Rattle.std.proofs.Common.{◌≡◌, ◌≢◌, ℕ, zero, suc, ◌+◌, ◌<◌, ◌≤◌, List, [], ◌∷◌, ◌++◌, eqb, set, get_or, length, replicate, refl, sym, ap, arith, eq-eqb, ne_eqb, lt-ltb, le-ltb}
use Rattle.std.specs.List.{Contains}
use mathlib.Core.Logic.{dite}
use native.Mathlib.Decide.{ℕ_discrete, dec_le}
use Rattle.lift_core.specs.Times.{one_if, times, total_of, once_below}

pub times-append : (x : ℕ) (xs ys : List ℕ) → times x (xs ++ ys) ≡ times x xs + times x ys
times-append x [] ys = omega arith
times-append x (z ∷ xs) ys = let h = times-append x xs ys in omega arith

pub times_same : (x : ℕ) → times x (x ∷ []) ≡ 1
times_same x = let e : one_if (eqb x x) ≡ 1 = ap one_if (eq-eqb x x refl) in omega arith

pub times_other : (x y : ℕ) → x ≢ y → times x (y ∷ []) ≡ 0
times_other x y ne = let e : one_if (eqb x y) ≡ 0 = ap one_if (ne_eqb x y ne) in omega arith

pub once_yes : (x n : ℕ) → x < n → once_below x n ≡ 1
once_yes x n h = ap one_if (lt-ltb x n h)

pub once_no : (x n : ℕ) → n ≤ x → once_below x n ≡ 0
once_no x n h = ap one_if (le-ltb x n h)

pub once_le : (x n : ℕ) → once_below x n ≤ 1
once_le x n = dite (dec_le (suc x) n) (λ h. let o = once_yes x n h in omega arith) (λ h. let o = once_no x n (omega arith) in omega arith)

-- a number at some place stands in the list
pub times_there : (q : ℕ) (xs : List ℕ) (x : ℕ) → q < length xs → get_or xs q x ≡ x → 0 < times x xs
times_there q [] x h e = absurd (omega arith)
times_there zero (y ∷ ys) x h e = let n : one_if (eqb x y) ≡ 1 = ap one_if (eq-eqb x y (sym e)) in omega arith
times_there (suc q) (y ∷ ys) x h e = let r = times_there q ys x (omega arith) e in omega arith

pub contained_times : (x : ℕ) (xs : List ℕ) → Contains xs x → 0 < times x xs
contained_times x xs c = times_there c.0 xs x c.1 c.2

pub times_contained : (x : ℕ) (xs : List ℕ) → 0 < times x xs → Contains xs x
times_contained x [] h = absurd (omega arith)
times_contained x (y ∷ ys) h = dite (ℕ_discrete x y)
    (λ same. (zero, omega arith, sym same))
    (λ other. let e : one_if (eqb x y) ≡ 0 = ap one_if (ne_eqb x y other) in let r = times_contained x ys (omega arith) in (suc r.0, (let l = r.1 in omega arith), r.2))

module _ {V : Type 0} where
  -- one place of the list changes
  pub total-set_at : (f : V → ℕ) (vs : List V) (i : ℕ) (w d : V) → i < length vs → total_of f (set vs i w) + f (get_or vs i d) ≡ total_of f vs + f w
  total-set_at f [] i w d h = absurd (omega arith)
  total-set_at f (v ∷ vs) zero w d h = omega arith
  total-set_at f (v ∷ vs) (suc i) w d h = let r = total-set_at f vs i w d (omega arith) in omega arith

  pub total-replicate_zero : (f : V → ℕ) (n : ℕ) (v : V) → f v ≡ 0 → total_of f (replicate n v) ≡ 0
  total-replicate_zero f zero v e = refl
  total-replicate_zero f (suc n) v e = let r = total-replicate_zero f n v e in omega arith
