-- The number of used pairs grows by the number of pairs of the next norm: both are sums over all rows f and g of 1 or 0.
use Rattle.std.proofs.Common.{◌≡◌, ℕ, ◌+◌, ◌*◌, ◌^◌, ◌≤◌, ◌<◌, List, [], ◌∷◌, ◌++◌, length, refl, ap, ap₂, sym, ◌∙◌, arith, inl, inr, ◌⊎◌, Bool, true, false, cond, eqb, leb, ◌&&◌, length-append}
use Rattle.std.specs.Prelude.{ℤ, map, ◌==◌, pos}
use Rattle.std.specs.List.{Contains, AllByRecursion, filter, flat_map, sum_by}
use Rattle.std.proofs.lemmas.Bool.{cases_Bool, cases_lt, cases_eq, eq-eqb, ne_eqb, le-leb, lt-leb}
use Rattle.std.proofs.lemmas.List.{length-map}
use Rattle.std.proofs.lemmas.List.Sums.{sum_by-cons}
use Rattle.lift_core.specs.Stages.{stage_norm, last, has_positive_last, has_negative_last, pairs_within, IsNextNorm}
use Rattle.lift_core.specs.Walks.{used_up_to}
use Rattle.lift_core.proofs.Counts.{sum_by-same, sum_by-nothing, pairs_within-filter}
use Rattle.stage_store.specs.Classes.{pairs_of}
use Rattle.stage_store.specs.Stage.{StageValue, IsStage, used_of}
use Rattle.stage_store.proofs.StageFields.{is_less}

-- whether f and g are a pair of norm at most e, and of norm e, as numbers
abbrev within : List ℤ → List ℤ → ℕ → ℕ
within f g e = cond (has_positive_last f && (has_negative_last g && leb (stage_norm f + stage_norm g) e)) 1 0

abbrev exactly : List ℤ → List ℤ → ℕ → ℕ
exactly f g e = cond (has_positive_last f && (has_negative_last g && eqb (stage_norm f + stage_norm g) e)) 1 0

-- ---- the pairs of norm e
abbrev seconds : List (List ℤ) → ℕ → List ℤ → List (List ℤ)
seconds gs e f = filter (λ g. stage_norm f + stage_norm g == e) (filter has_negative_last gs)

seconds_count : (gs : List (List ℤ)) (e : ℕ) (f : List ℤ) → length (seconds gs e f) ≡ sum_by (λ g. cond (has_negative_last g && eqb (stage_norm f + stage_norm g) e) 1 0) gs
seconds_count [] e f = refl
seconds_count (g ∷ gs) e f =
    let r : length (seconds gs e f) ≡ sum_by (λ g. cond (has_negative_last g && eqb (stage_norm f + stage_norm g) e) 1 0) gs = seconds_count gs e f in
    let s : sum_by (λ g. cond (has_negative_last g && eqb (stage_norm f + stage_norm g) e) 1 0) (g ∷ gs) ≡ cond (has_negative_last g && eqb (stage_norm f + stage_norm g) e) 1 0 + sum_by (λ g. cond (has_negative_last g && eqb (stage_norm f + stage_norm g) e) 1 0) gs = sum_by-cons (λ g. cond (has_negative_last g && eqb (stage_norm f + stage_norm g) e) 1 0) g gs in
    go (has_negative_last g) (eqb (stage_norm f + stage_norm g) e) refl refl r ∙ sym s
  where
    go : (a b : Bool) → has_negative_last g ≡ a → eqb (stage_norm f + stage_norm g) e ≡ b
        → length (seconds gs e f) ≡ sum_by (λ g. cond (has_negative_last g && eqb (stage_norm f + stage_norm g) e) 1 0) gs
        → length (filter (λ g. stage_norm f + stage_norm g == e) (cond (has_negative_last g) (g ∷ filter has_negative_last gs) (filter has_negative_last gs))) ≡ cond (has_negative_last g && eqb (stage_norm f + stage_norm g) e) 1 0 + sum_by (λ g. cond (has_negative_last g && eqb (stage_norm f + stage_norm g) e) 1 0) gs
    go true true p q r = rw (p, q) (omega (arith, r))
    go true false p q r = rw (p, q) (omega (arith, r))
    go false b p q r = rw p (omega (arith, r))

abbrev with_first : List (List ℤ) → ℕ → List ℤ → List (List ℤ × List ℤ)
with_first gs e f = map (λ g. (f, g)) (seconds gs e f)

firsts_count : (fs gs : List (List ℤ)) (e : ℕ) → length (flat_map (with_first gs e) (filter has_positive_last fs)) ≡ sum_by (λ f. sum_by (λ g. exactly f g e) gs) fs
firsts_count [] gs e = refl
firsts_count (f ∷ fs) gs e =
    let r : length (flat_map (with_first gs e) (filter has_positive_last fs)) ≡ sum_by (λ f. sum_by (λ g. exactly f g e) gs) fs = firsts_count fs gs e in
    elim (cases_Bool (has_positive_last f)) [
      | inl t ↦
          let same : sum_by (λ g. exactly f g e) gs ≡ sum_by (λ g. cond (has_negative_last g && eqb (stage_norm f + stage_norm g) e) 1 0) gs = sum_by-same (λ g. exactly f g e) (λ g. cond (has_negative_last g && eqb (stage_norm f + stage_norm g) e) 1 0) gs (λ g c. ap (λ b. cond (b && (has_negative_last g && eqb (stage_norm f + stage_norm g) e)) 1 0) t) in
          let n : length (with_first gs e f ++ flat_map (with_first gs e) (filter has_positive_last fs)) ≡ sum_by (λ f. sum_by (λ g. exactly f g e) gs) (f ∷ fs) =
          length-append (with_first gs e f) (flat_map (with_first gs e) (filter has_positive_last fs))
          ∙ ap₂ (λ a b. a + b) (length-map (seconds gs e f) (λ g. (f, g)) ∙ seconds_count gs e f ∙ sym same) r
          ∙ sym (sum_by-cons (λ f. sum_by (λ g. exactly f g e) gs) f fs) in
          ap (λ b. length (flat_map (with_first gs e) (cond b (f ∷ filter has_positive_last fs) (filter has_positive_last fs)))) t ∙ n
      | inr t ↦
          let none : sum_by (λ g. exactly f g e) gs ≡ 0 = sum_by-nothing (λ g. exactly f g e) gs (λ g c. ap (λ b. cond (b && (has_negative_last g && eqb (stage_norm f + stage_norm g) e)) 1 0) t) in
          let n : length (flat_map (with_first gs e) (filter has_positive_last fs)) ≡ sum_by (λ f. sum_by (λ g. exactly f g e) gs) (f ∷ fs) = omega (arith, r, none, sum_by-cons (λ f. sum_by (λ g. exactly f g e) gs) f fs) in
          ap (λ b. length (flat_map (with_first gs e) (cond b (f ∷ filter has_positive_last fs) (filter has_positive_last fs)))) t ∙ n
    ]

pub pairs_count_is : (listed : List (List ℤ)) (e : ℕ) → length (pairs_of listed e) ≡ sum_by (λ f. sum_by (λ g. exactly f g e) listed) listed
pairs_count_is listed e = firsts_count listed listed e

-- ---- from d to e
sum_by-both : {X : Type 0} (f g : X → ℕ) (xs : List X) → sum_by (λ x. f x + g x) xs ≡ sum_by f xs + sum_by g xs
sum_by-both f g [] = refl
sum_by-both f g (x ∷ xs) = omega (arith, sum_by-cons (λ x. f x + g x) x xs, sum_by-cons f x xs, sum_by-cons g x xs, sum_by-both f g xs)

flag_more : (n d e : ℕ) → d < e → (n ≤ d) ⊎ (e ≤ n) → cond (leb n e) 1 0 ≡ cond (leb n d) 1 0 + cond (eqb n e) 1 0
flag_more n d e l (inl h) = rw (le-leb n e (omega (arith, h, l)), le-leb n d h, ne_eqb n e (λ s. omega (arith, s, h, l))) refl
flag_more n d e l (inr h) = elim (cases_eq n e) [
  | inl s ↦ rw (le-leb n e (omega (arith, s)), lt-leb n d (omega (arith, h, l)), eq-eqb n e s) refl
  | inr s ↦ rw (lt-leb n e (omega (arith, s, h)), lt-leb n d (omega (arith, h, l)), ne_eqb n e s) refl
]

term_more : (f g : List ℤ) (d e : ℕ) (a b : Bool) → has_positive_last f ≡ a → has_negative_last g ≡ b → d < e → (a ≡ true → b ≡ true → (stage_norm f + stage_norm g ≤ d) ⊎ (e ≤ stage_norm f + stage_norm g)) → within f g e ≡ within f g d + exactly f g e
term_more f g d e true true p q l h = rw (p, q) (flag_more (stage_norm f + stage_norm g) d e l (h refl refl))
term_more f g d e true false p q l h = rw (p, q) refl
term_more f g d e false b p q l h = rw p refl

pub pairs_to_next : (listed waiting : List (List ℤ)) (d e : ℕ) → IsNextNorm listed waiting d e → pairs_within listed e ≡ pairs_within listed d + length (pairs_of listed e)
pairs_to_next listed waiting d e next =
    sum_by-same (λ f. sum_by (λ g. within f g e) listed) (λ f. sum_by (λ g. within f g d) listed + sum_by (λ g. exactly f g e) listed) listed
    (λ f c. sum_by-same (λ g. within f g e) (λ g. within f g d + exactly f g e) listed
    (λ g k. term_more f g d e (has_positive_last f) (has_negative_last g) refl refl next.above (λ p q. elim (cases_lt d (stage_norm f + stage_norm g)) [
      | inl l ↦ inr (next.least (stage_norm f + stage_norm g) l (inr (f, g, record { first_listed = c; second_listed = k; above = is_less (pos 0) (last f) p; under = is_less (last g) (pos 0) q }, refl)))
      | inr l ↦ inl l
    ]))
    ∙ sum_by-both (λ g. within f g d) (λ g. exactly f g e) listed)
    ∙ sum_by-both (λ f. sum_by (λ g. within f g d) listed) (λ f. sum_by (λ g. exactly f g e) listed) listed
    ∙ ap (λ n. pairs_within listed d + n) (sym (pairs_count_is listed e))

pub used_to_next : (listed waiting : List (List ℤ)) (d e used : ℕ) → IsNextNorm listed waiting d e → used_up_to used listed d e ≡ used + length (pairs_of listed e)
used_to_next listed waiting d e used next = omega (arith, pairs_to_next listed waiting d e next)

-- ---- the rows of norm e are in no pair of norm at most e
filter_front : (d : ℕ) (listed new : List (List ℤ)) → AllByRecursion (λ z. stage_norm z ≤ d) listed → AllByRecursion (λ z. d < stage_norm z) new → filter (λ z. leb (stage_norm z) d) (listed ++ new) ≡ listed
filter_front d [] [] h k = refl
filter_front d [] (z ∷ new) h k = rw (lt-leb (stage_norm z) d k.0) (filter_front d [] new h k.1)
filter_front d (z ∷ listed) new h k = rw (le-leb (stage_norm z) d h.0) (ap (λ l. z ∷ l) (filter_front d listed new h.1 k))

leb-not : (n d : ℕ) → leb n d ≡ false → d < n
leb-not n d e = elim (cases_lt d n) [
  | inl l ↦ l
  | inr l ↦ let t : leb n d ≡ true = le-leb n d l in absurd (cc)
]

pub pairs_after : (d e : ℕ) (listed new : List (List ℤ)) → d < e → AllByRecursion (λ z. stage_norm z ≤ d) listed → AllByRecursion (λ z. stage_norm z ≡ e) new
    → ((z : List ℤ) → Contains (listed ++ new) z → 0 < stage_norm z) → ((z : List ℤ) → Contains (listed ++ new) z → (stage_norm z ≤ d) ⊎ (stage_norm z ≡ e))
    → pairs_within (listed ++ new) e ≡ pairs_within listed e
pairs_after d e listed new l h k positive either =
    sym (pairs_within-filter (λ z. leb (stage_norm z) d) (listed ++ new) e positive
    (λ z c t. elim (either z c) [ inl a ↦ absurd (omega (arith, a, leb-not (stage_norm z) d t)) | inr b ↦ omega (arith, b) ]))
    ∙ ap (λ l. pairs_within l e) (filter_front d listed new h (above new k))
  where
    above : (new : List (List ℤ)) → AllByRecursion (λ z. stage_norm z ≡ e) new → AllByRecursion (λ z. d < stage_norm z) new
    above [] k = tt
    above (z ∷ new) k = (omega (arith, k.0, l), above new k.1)

-- ---- how many pairs there are at most
sum_by-most : {X : Type 0} (f : X → ℕ) (m : ℕ) (xs : List X) → ((x : X) → f x ≤ m) → sum_by f xs ≤ length xs * m
sum_by-most f m [] h = omega arith
sum_by-most f m (x ∷ xs) h = omega (arith, sum_by-cons f x xs, h x, sum_by-most f m xs h)

flag-most : (b : Bool) → cond b 1 0 ≤ 1
flag-most true = omega arith
flag-most false = omega arith

square : (n m : ℕ) → n ≤ m → n * (n * 1) ≤ m * m
square n m h = grind arith

pub pairs_within-most : (listed : List (List ℤ)) (d : ℕ) → length listed ≤ 2 ^ 21 → pairs_within listed d ≤ 2 ^ 42
pairs_within-most listed d h =
    let one : (f : List ℤ) → sum_by (λ g. within f g d) listed ≤ length listed * 1 = λ f. sum_by-most (λ g. within f g d) 1 listed (λ g. flag-most (has_positive_last f && (has_negative_last g && leb (stage_norm f + stage_norm g) d))) in
    omega (arith, sum_by-most (λ f. sum_by (λ g. within f g d) listed) (length listed * 1) listed one, square (length listed) (2 ^ 21) h)

pub used_most : (s : StageValue) → IsStage s → used_of s ≤ 2 ^ 62 + 65 * 2 ^ 42
used_most s h = omega (arith, h.before_small, h.number_to, h.system_kept.most_rows, pairs_within-most s.listed s.norm h.listed_length)
