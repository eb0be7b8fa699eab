-- A text is a number within limits exactly where std parses it as one, but for a plus at its front.
use Rattle.std.proofs.Common.{◌≡◌, ◌<◌, ◌≤◌, ◌==◌, ◌&&◌, ℕ, nat_lt, nat_le, Bool, true, false, cond, List, [], ◌∷◌, drop, slice_index, None, Some, refl, ap, sym, subst, ◌∙◌, arith}
use Rattle.std.specs.List.{list_all}
use Rattle.std.specs.Char.{is_digit, digit_value}
use Rattle.std.specs.Str.Parse.{AllDigits, IsNumeral, digits_value, without_leading_plus}
use Rattle.tool_words.specs.Numbers.{is_number, is_between, number_in}

lt_true : (m n : ℕ) → m < n → nat_lt m n ≡ true
lt_true m n h = grind (arith, h)

le_true : (m n : ℕ) → m ≤ n → nat_le m n ≡ true
le_true m n h = grind (arith, h)

both_true : (a b : Bool) → a ≡ true → b ≡ true → a && b ≡ true
both_true a b e f = rw (e, f) refl

all_true : (bs : List ℕ) → AllDigits 10 bs → list_all (λ c. is_digit c 10) bs ≡ true
all_true [] h = refl
all_true (b ∷ bs) h = both_true _ _ (lt_true (digit_value b) 10 h.0) (all_true bs h.1)

pub number_true : (bs : List ℕ) → IsNumeral 10 bs → is_number bs ≡ true
number_true [] h = absurd (omega (arith, h.0))
number_true (b ∷ bs) h = all_true (b ∷ bs) h.1

split : (a b : Bool) → a && b ≡ true → (a ≡ true) × (b ≡ true)
split true b e = (refl, e)
split false b e = absurd (grind (arith, e))

true_lt : (m n : ℕ) → nat_lt m n ≡ true → m < n
true_lt m n h = grind (arith, h)

true_le : (m n : ℕ) → nat_le m n ≡ true → m ≤ n
true_le m n h = grind (arith, h)

true_all : (bs : List ℕ) → list_all (λ c. is_digit c 10) bs ≡ true → AllDigits 10 bs
true_all [] e = tt
true_all (b ∷ bs) e = let h = split (is_digit b 10) _ e in (true_lt (digit_value b) 10 h.0, true_all bs h.1)

pub true_number : (bs : List ℕ) → is_number bs ≡ true → IsNumeral 10 bs
true_number [] e = absurd (grind (arith, e))
true_number (b ∷ bs) e = (omega arith, true_all (b ∷ bs) e)

drop_none : (bs : List ℕ) → drop 0 bs ≡ bs
drop_none [] = refl
drop_none (b ∷ bs) = refl

no_plus : (text : List ℕ) → (slice_index text 0 == 43) ≡ false → without_leading_plus text ≡ text
no_plus text e = ap (λ b. drop (cond b 1 0) text) e ∙ drop_none text

pub number_found : (least most n : ℕ) (text : List ℕ) → (slice_index text 0 == 43) ≡ false → IsNumeral 10 (without_leading_plus text) →
    n ≡ digits_value 10 (without_leading_plus text) → least ≤ n → n ≤ most → Some n ≡ number_in least most text
number_found least most n text plain numeral value low high =
    let w = no_plus text plain in
    let v : n ≡ digits_value 10 text = value ∙ ap (digits_value 10) w in
    let test : is_number text && is_between least most (digits_value 10 text) ≡ true =
    both_true _ _ (number_true text (subst (IsNumeral 10) w numeral)) (both_true _ _ (le_true least _ (omega (arith, low, v))) (le_true _ most (omega (arith, high, v)))) in
    ap Some v ∙ sym (ap (λ b. cond b (Some (digits_value 10 text)) None) test)

pub number_lost : (least most : ℕ) (text : List ℕ) → (slice_index text 0 == 43) ≡ false → most < 18446744073709551616 →
    (IsNumeral 10 (without_leading_plus text) × (digits_value 10 (without_leading_plus text) < 18446744073709551616) → ⊥) → None ≡ number_in least most text
number_lost least most text plain small lost =
    let w = no_plus text plain in
    elim (is_number text && is_between least most (digits_value 10 text)) as (λ b. is_number text && is_between least most (digits_value 10 text) ≡ b → None ≡ cond b (Some (digits_value 10 text)) None) [
      | false ↦ λ e. refl
      | true ↦ λ e.
          let h = split (is_number text) _ e in
          let k = split (nat_le least (digits_value 10 text)) _ h.1 in
          absurd (lost (
            subst (IsNumeral 10) (sym w) (true_number text h.0),
            subst (λ t. digits_value 10 t < 18446744073709551616) (sym w) (omega (arith, small, true_le _ _ k.1)),
          ))
    ] refl
