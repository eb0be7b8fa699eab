-- What is printed of a number is one word, which spells that number.
use Rattle.std.proofs.Common.{◌≡◌, ◌<◌, ◌≤◌, ◌+◌, ◌-◌, ◌*◌, ◌/◌, ◌%◌, ◌^◌, ℕ, suc, true, false, ◌==◌, Some, List, [], ◌∷◌, ◌++◌, length, refl, sym, ap, ◌∙◌, arith, pos, negsuc, decimal}
use Rattle.std.proofs.lemmas.Bool.{le-leb, and_from, ne_eqb, cond-true, cond-false}
use Rattle.std.proofs.lemmas.Fmt.{decimal_by_steps}
use Rattle.std.proofs.Math.IntN.{ℤ, nat_abs, neg_ℤ}
use Rattle.std.specs.Fmt.{signed_decimal}
use Rattle.std.specs.List.{AllByRecursion}
use Rattle.std.specs.Option.{option_map}
use Rattle.mat_files.specs.Words.{is_blank, is_digit, with_digits, digits_value, number_value, count_value}

-- each byte is a digit
abbrev pub AreDigits : List ℕ → Type 0
AreDigits ds = AllByRecursion (λ b. (48 ≤ b) × (b ≤ 57)) ds

digit_test : (b : ℕ) → 48 ≤ b → b ≤ 57 → is_digit b ≡ true
digit_test b low high = and_from _ _ (le-leb 48 b low) (le-leb b 57 high)

digits_push : (ds : List ℕ) (d : ℕ) → AreDigits ds → 48 ≤ d → d ≤ 57 → AreDigits (ds ++ d ∷ [])
digits_push [] d all low high = ((low, high), tt)
digits_push (b ∷ bs) d all low high = (all.0, digits_push bs d all.1 low high)

with_digits-push : (ds : List ℕ) (d k n : ℕ) → 48 ≤ d → d ≤ 57 → AreDigits ds → with_digits k ds ≡ Some n → with_digits k (ds ++ d ∷ []) ≡ Some (10 * n + (d - 48))
with_digits-push [] d k n low high all e =
    let same : k ≡ n = cc e in cond-true _ _ _ (digit_test d low high) ∙ ap (λ i. Some (10 * i + (d - 48))) same
with_digits-push (b ∷ bs) d k n low high all e =
    let test = digit_test b all.0.0 all.0.1 in
    cond-true _ _ _ test ∙ with_digits-push bs d (10 * k + (b - 48)) n low high all.1 (sym (cond-true _ _ _ test) ∙ e)

-- one or more digits of value n
pub record AreDigitsOf (n : ℕ) (ds : List ℕ) : Type 0 where
  pub some : 0 < length ds
  pub all : AreDigits ds
  pub value : with_digits 0 ds ≡ Some n

length-push : (ds : List ℕ) (d : ℕ) → 0 < length (ds ++ d ∷ [])
length-push [] d = omega arith
length-push (b ∷ bs) d = omega arith

pub decimal_digits : (n : ℕ) → n < 2 ^ 64 → AreDigitsOf n (decimal n)
decimal_digits n h = decimal_by_steps AreDigitsOf one more n h where
  one : (n : ℕ) → n < 10 → AreDigitsOf n ((48 + n) ∷ [])
  one n small = record {
    some = omega arith;
    all = ((omega arith, omega arith), tt);
    value = cond-true _ _ _ (digit_test (48 + n) (omega arith) (omega arith)) ∙ ap Some (let e : 10 * 0 + (48 + n - 48) ≡ n = omega arith in e);
  }

  more : (n : ℕ) (ds : List ℕ) → 10 ≤ n → AreDigitsOf (n / 10) ds → AreDigitsOf n (ds ++ ((48 + n % 10) ∷ []))
  more n ds large front = record {
    some = length-push ds (48 + n % 10);
    all = digits_push ds (48 + n % 10) front.all (omega arith) (omega arith);
    value = with_digits-push ds (48 + n % 10) 0 (n / 10) (omega arith) (omega arith) front.all front.value
        ∙ ap Some (let e : 10 * (n / 10) + (48 + n % 10 - 48) ≡ n = omega arith in e);
  }

-- digits are a count and a number of their value
count-digits : (n : ℕ) (ds : List ℕ) → AreDigitsOf n ds → (digits_value ds ≡ Some n) × (count_value ds ≡ Some n) × (number_value ds ≡ Some (pos n))
count-digits n [] d = absurd (omega (arith, d.some))
count-digits n (b ∷ bs) d =
    let minus : (b == 45) ≡ false = ne_eqb b 45 (λ e. omega (arith, e, d.all.0.0)) in
    let plus : (b == 43) ≡ false = ne_eqb b 43 (λ e. omega (arith, e, d.all.0.0)) in
    (d.value, cond-false _ _ _ plus ∙ d.value, cond-false _ _ _ minus ∙ cond-false _ _ _ plus ∙ ap (option_map pos) d.value)

pub count_value-decimal : (n : ℕ) → n < 2 ^ 64 → count_value (decimal n) ≡ Some n
count_value-decimal n h = (count-digits n (decimal n) (decimal_digits n h)).1

pub number_value-decimal : (z : ℤ) → nat_abs z < 2 ^ 64 → number_value (signed_decimal z) ≡ Some z
number_value-decimal (pos n) h = (count-digits n (decimal n) (decimal_digits n h)).2
number_value-decimal (negsuc n) h = ap (option_map (λ k. neg_ℤ (pos k))) (count-digits (suc n) (decimal (suc n)) (decimal_digits (suc n) h)).0

-- one or more bytes that are no white space
pub record IsWordText (bs : List ℕ) : Type 0 where
  pub some : 0 < length bs
  pub solid : AllByRecursion (λ b. is_blank b ≡ false) bs

solid_digits : (ds : List ℕ) → AreDigits ds → AllByRecursion (λ b. is_blank b ≡ false) ds
solid_digits [] all = tt
solid_digits (b ∷ bs) all = (solid b all.0.0, solid_digits bs all.1) where
  solid : (b : ℕ) → 48 ≤ b → is_blank b ≡ false
  solid b low = grind arith

pub word-decimal : (n : ℕ) → n < 2 ^ 64 → IsWordText (decimal n)
word-decimal n h = let d = decimal_digits n h in record { some = d.some; solid = solid_digits (decimal n) d.all }

pub word-signed_decimal : (z : ℤ) → nat_abs z < 2 ^ 64 → IsWordText (signed_decimal z)
word-signed_decimal (pos n) h = word-decimal n h
word-signed_decimal (negsuc n) h = record { some = omega arith; solid = (refl, (word-decimal (suc n) h).solid) }
