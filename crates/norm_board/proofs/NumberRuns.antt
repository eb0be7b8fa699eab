-- Numbers that are kept as runs.
use Rattle.std.proofs.Common.{◌≡◌, ℕ, zero, suc, ◌+◌, ◌<◌, List, [], ◌∷◌, ◌++◌, refl, take, get_or, length, sym, ap, ◌∙◌, arith, append-nil}
use Rattle.std.proofs.lemmas.List.{append_assoc}
use Rattle.std.specs.List.{AllByRecursion}
use Rattle.std.proofs.Math.Seq.{take-suc}
use Rattle.norm_board.specs.Inside.NumberRuns.{count_up, numbers_of, IsRun}
use Rattle.norm_board.specs.declared.runs.Run.{Run}

pub count_up-add : (a n m : ℕ) → count_up a (n + m) ≡ count_up a n ++ count_up (a + n) m
count_up-add a zero m = let e : a ≡ a + 0 = omega arith in let n : 0 + m ≡ m = omega arith in ap (count_up a) n ∙ ap (λ (b : ℕ). count_up b m) e
count_up-add a (suc n) m = let e : suc a + n ≡ a + suc n = omega arith in let k : suc n + m ≡ suc (n + m) = omega arith in
    ap (count_up a) k ∙ ap (λ (l : List ℕ). a ∷ l) (count_up-add (suc a) n m ∙ ap (λ (b : ℕ). count_up (suc a) n ++ count_up b m) e)

pub numbers-append : (xs ys : List Run) → numbers_of (xs ++ ys) ≡ numbers_of xs ++ numbers_of ys
numbers-append [] ys = refl
numbers-append (r ∷ xs) ys = ap (λ (l : List ℕ). count_up r.first r.count ++ l) (numbers-append xs ys) ∙ sym (append_assoc (count_up r.first r.count) (numbers_of xs) (numbers_of ys))

pub numbers-push : (xs : List Run) (r : Run) → numbers_of (xs ++ r ∷ []) ≡ numbers_of xs ++ count_up r.first r.count
numbers-push xs r = numbers-append xs (r ∷ []) ∙ ap (λ (l : List ℕ). numbers_of xs ++ l) (append-nil (count_up r.first r.count))

-- the last run goes on
pub numbers_longer : (xs : List Run) (last more : Run) (n : ℕ) → last.first + last.count ≡ more.first → n ≡ last.count + more.count
    → numbers_of (xs ++ record { first = last.first; count = n } ∷ []) ≡ numbers_of (xs ++ last ∷ []) ++ count_up more.first more.count
numbers_longer xs last more n meet e =
    numbers-push xs (record { first = last.first; count = n })
    ∙ ap (λ (k : ℕ). numbers_of xs ++ count_up last.first k) e
    ∙ ap (λ (l : List ℕ). numbers_of xs ++ l) (count_up-add last.first last.count more.count ∙ ap (λ (a : ℕ). count_up last.first last.count ++ count_up a more.count) meet)
    ∙ sym (append_assoc (numbers_of xs) (count_up last.first last.count) (count_up more.first more.count))
    ∙ ap (λ (l : List ℕ). l ++ count_up more.first more.count) (sym (numbers-push xs last))

pub numbers_taken : (xs : List Run) (i : ℕ) (d : Run) → i < length xs → numbers_of (take (i + 1) xs) ≡ numbers_of (take i xs) ++ count_up (get_or xs i d).first (get_or xs i d).count
numbers_taken xs i d h =
    let k : i + 1 ≡ suc i = omega arith in
    ap (λ (j : ℕ). numbers_of (take j xs)) k ∙ (ap numbers_of (take-suc xs i d h) ∙ numbers-push (take i xs) (get_or xs i d))

-- one run more of those that are added
pub numbers_added : (old new before : List ℕ) (xs : List Run) (i : ℕ) (d : Run) → i < length xs → before ≡ old ++ numbers_of (take i xs) → new ≡ before ++ count_up (get_or xs i d).first (get_or xs i d).count
    → new ≡ old ++ numbers_of (take (i + 1) xs)
numbers_added old new before xs i d h e f =
    f ∙ ap (λ (l : List ℕ). l ++ count_up (get_or xs i d).first (get_or xs i d).count) e
    ∙ append_assoc old (numbers_of (take i xs)) (count_up (get_or xs i d).first (get_or xs i d).count)
    ∙ ap (λ (l : List ℕ). old ++ l) (sym (numbers_taken xs i d h))

pub each-push : (xs : List Run) (r : Run) → AllByRecursion IsRun xs → IsRun r → AllByRecursion IsRun (xs ++ r ∷ [])
each-push [] r h k = (k, tt)
each-push (x ∷ xs) r h k = (h.0, each-push xs r h.1 k)

pub each-pop : (xs : List Run) (r : Run) → AllByRecursion IsRun (xs ++ r ∷ []) → AllByRecursion IsRun xs
each-pop [] r h = tt
each-pop (x ∷ xs) r h = (h.0, each-pop xs r h.1)

pub each-last : (xs : List Run) (r : Run) → AllByRecursion IsRun (xs ++ r ∷ []) → IsRun r
each-last [] r h = h.0
each-last (x ∷ xs) r h = each-last xs r h.1
