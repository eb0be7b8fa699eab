-- The numbers of pairs: what the rows of the largest norm add, and how many pairs a finished stage has.
-- The number is a double sum of ones and zeros. A row of norm e is in no pair of norm at most e, as the other row has
-- a positive norm; and where each pair
-- is counted, the double sum is the product of the two sums.
use Rattle.std.proofs.Common.{◌≡◌, ℕ, ◌+◌, ◌*◌, ◌≤◌, ◌<◌, List, [], ◌∷◌, refl, ap, ap₂, sym, ◌∙◌, arith, inl, inr, Bool, true, false, cond, ◌&&◌, leb}
use Rattle.std.specs.List.{Contains, filter, sum_by, count_by}
use Rattle.std.proofs.lemmas.List.Sums.{sum_by-cons, sum_by-le-sum_by}
use Rattle.std.proofs.lemmas.Bool.{le-leb, lt-leb, leb-true, cases_Bool}
use Rattle.lift_core.specs.Stages.{pairs_within, all_pairs, has_positive_last, has_negative_last, stage_norm}
use Rattle.lift_core.proofs.Lists.{contains_head, contains_tail}
use Rattle.lift_core.proofs.Orders.{from_filter}
use Rattle.std.specs.Prelude.{ℤ}

module _ {X : Type 0} where
  pub sum_by-same : (f g : X → ℕ) (xs : List X) → ((x : X) → Contains xs x → f x ≡ g x) → sum_by f xs ≡ sum_by g xs
  sum_by-same f g [] h = refl
  sum_by-same f g (x ∷ xs) h = sum_by-cons f x xs ∙ ap₂ (λ a b. a + b) (h x (contains_head x xs)) (sum_by-same f g xs (λ y c. h y (contains_tail x xs y c))) ∙ sym (sum_by-cons g x xs)

  pub sum_by-nothing : (f : X → ℕ) (xs : List X) → ((x : X) → Contains xs x → f x ≡ 0) → sum_by f xs ≡ 0
  sum_by-nothing f [] h = refl
  sum_by-nothing f (x ∷ xs) h = sum_by-cons f x xs ∙ ap₂ (λ a b. a + b) (h x (contains_head x xs)) (sum_by-nothing f xs (λ y c. h y (contains_tail x xs y c)))

  -- what the filter leaves out counts nothing
  pub sum_by-filter : (f : X → ℕ) (test : X → Bool) (xs : List X) → ((x : X) → Contains xs x → test x ≡ false → f x ≡ 0) → sum_by f (filter test xs) ≡ sum_by f xs
  sum_by-filter f test [] h = refl
  sum_by-filter f test (x ∷ xs) h =
      let r : sum_by f (filter test xs) ≡ sum_by f xs = sum_by-filter f test xs (λ y c. h y (contains_tail x xs y c)) in
      elim (test x) as (λ b. test x ≡ b → sum_by f (cond b (x ∷ filter test xs) (filter test xs)) ≡ sum_by f (x ∷ xs)) [
        | true ↦ λ e. sum_by-cons f x (filter test xs) ∙ ap (λ n. f x + n) r ∙ sym (sum_by-cons f x xs)
        | false ↦ λ e. let z : f x ≡ 0 = h x (contains_head x xs) e in r ∙ omega (arith, sum_by-cons f x xs)
      ] refl

  pub sum_by-times : (a : ℕ) (f : X → ℕ) (xs : List X) → sum_by (λ x. a * f x) xs ≡ a * sum_by f xs
  sum_by-times a f [] = omega arith
  sum_by-times a f (x ∷ xs) = sum_by-cons (λ y. a * f y) x xs ∙ omega (arith, sum_by-times a f xs, ap (λ n. a * n) (sum_by-cons f x xs))

  pub sum_by-times_right : (a : ℕ) (f : X → ℕ) (xs : List X) → sum_by (λ x. f x * a) xs ≡ sum_by f xs * a
  sum_by-times_right a f [] = omega arith
  sum_by-times_right a f (x ∷ xs) = sum_by-cons (λ y. f y * a) x xs ∙ omega (arith, sum_by-times_right a f xs, ap (λ n. n * a) (sum_by-cons f x xs))

-- whether f and g are a pair of norm at most e, as a number
term : List ℤ → List ℤ → ℕ → ℕ
term f g e = cond (has_positive_last f && (has_negative_last g && leb (stage_norm f + stage_norm g) e)) 1 0

within : List (List ℤ) → List (List ℤ) → ℕ → ℕ
within fs gs e = sum_by (λ f. sum_by (λ g. term f g e) gs) fs

within-is : (listed : List (List ℤ)) (e : ℕ) → pairs_within listed e ≡ within listed listed e
unfolding within term
within-is listed e = refl

abbrev flag : Bool → ℕ
flag b = cond b 1 0

cond-false : (a b : Bool) → flag (a && (b && false)) ≡ 0
cond-false true true = refl
cond-false true false = refl
cond-false false b = refl

term-above : (f g : List ℤ) (e : ℕ) → e < stage_norm f + stage_norm g → term f g e ≡ 0
unfolding term
term-above f g e h = ap (λ b. flag (has_positive_last f && (has_negative_last g && b))) (lt-leb (stage_norm f + stage_norm g) e h) ∙ cond-false (has_positive_last f) (has_negative_last g)

-- rows that are left out, of norm e at least, are in no pair of norm at most e
pub pairs_within-filter : (test : List ℤ → Bool) (rows : List (List ℤ)) (e : ℕ)
    → ((z : List ℤ) → Contains rows z → 0 < stage_norm z)
    → ((z : List ℤ) → Contains rows z → test z ≡ false → e ≤ stage_norm z)
    → pairs_within (filter test rows) e ≡ pairs_within rows e
unfolding within
pairs_within-filter test rows e positive large =
    within-is (filter test rows) e
    ∙ sum_by-filter (λ f. sum_by (λ g. term f g e) (filter test rows)) test rows (λ f c t. sum_by-nothing (λ g. term f g e) (filter test rows) (λ g d. term-above f g e (omega (arith, large f c t, positive g (from_filter test rows g d).0))))
    ∙ sum_by-same (λ f. sum_by (λ g. term f g e) (filter test rows)) (λ f. sum_by (λ g. term f g e) rows) rows
    (λ f c. sum_by-filter (λ g. term f g e) test rows (λ g d t. term-above f g e (omega (arith, positive f c, large g d t))))
    ∙ sym (within-is rows e)

-- where no pair has a norm above d, all pairs are counted
pub pairs_within-all : (rows : List (List ℤ)) (d : ℕ)
    → ((f g : List ℤ) → Contains rows f → Contains rows g → has_positive_last f ≡ true → has_negative_last g ≡ true → stage_norm f + stage_norm g ≤ d)
    → pairs_within rows d ≡ all_pairs rows
unfolding within term
pairs_within-all rows d small =
    within-is rows d
    ∙ sum_by-same (λ f. sum_by (λ g. term f g d) rows) (λ f. sum_by (λ g. cond (has_positive_last f) 1 0 * cond (has_negative_last g) 1 0) rows) rows
    (λ f c. sum_by-same (λ g. term f g d) (λ g. cond (has_positive_last f) 1 0 * cond (has_negative_last g) 1 0) rows (λ g k. term-small f g c k))
    ∙ sum_by-same (λ f. sum_by (λ g. cond (has_positive_last f) 1 0 * cond (has_negative_last g) 1 0) rows) (λ f. cond (has_positive_last f) 1 0 * count_by has_negative_last rows) rows
    (λ f c. sum_by-times (cond (has_positive_last f) 1 0) (λ g. cond (has_negative_last g) 1 0) rows)
    ∙ sum_by-times_right (count_by has_negative_last rows) (λ f. cond (has_positive_last f) 1 0) rows
  where
    term-cases : (f g : List ℤ) → Contains rows f → Contains rows g → (a b : Bool) → has_positive_last f ≡ a → has_negative_last g ≡ b → flag (a && (b && leb (stage_norm f + stage_norm g) d)) ≡ flag a * flag b
    term-cases f g c k true true p q = ap flag (le-leb (stage_norm f + stage_norm g) d (small f g c k p q))
    term-cases f g c k true false p q = refl
    term-cases f g c k false true p q = refl
    term-cases f g c k false false p q = refl

    term-small : (f g : List ℤ) → Contains rows f → Contains rows g → term f g d ≡ cond (has_positive_last f) 1 0 * cond (has_negative_last g) 1 0
    term-small f g c k = term-cases f g c k (has_positive_last f) (has_negative_last g) refl refl

-- a greater norm has no fewer pairs
leb-more : (n d e : ℕ) → d ≤ e → leb n d ≡ true → leb n e ≡ true
leb-more n d e h p = le-leb n e (omega (arith, leb-true n d p))

term-more : (f g : List ℤ) (d e : ℕ) → d ≤ e → term f g d ≤ term f g e
unfolding term
term-more f g d e h = elim (cases_Bool (leb (stage_norm f + stage_norm g) d)) [
  | inl p ↦ let q : leb (stage_norm f + stage_norm g) e ≡ true = leb-more (stage_norm f + stage_norm g) d e h p in rw (p, q) (omega arith)
  | inr p ↦ rw p (rw (cond-false (has_positive_last f) (has_negative_last g)) (omega arith))
]

sum_by-more : {X : Type 0} (f g : X → ℕ) (xs : List X) → ((x : X) → f x ≤ g x) → sum_by f xs ≤ sum_by g xs
sum_by-more f g xs h = sum_by-le-sum_by f g xs h

pub pairs_within-more : (rows : List (List ℤ)) (d e : ℕ) → d ≤ e → pairs_within rows d ≤ pairs_within rows e
unfolding within term
pairs_within-more rows d e h = sum_by-more (λ f. sum_by (λ g. term f g d) rows) (λ f. sum_by (λ g. term f g e) rows) rows (λ f. sum_by-more (λ g. term f g d) (λ g. term f g e) rows (λ g. term-more f g d e h))
