-- The words of a line of cells, and the numbers that they write.
use Rattle.std.proofs.Common.{inl, inr, ◌≡◌, ◌<◌, ◌≤◌, ◌+◌, ◌^◌, ℕ, zero, suc, List, [], ◌∷◌, ◌++◌, length, take, drop, get_or, Bool, true, false, refl, sym, ap, subst, ◌∙◌, arith, append_assoc, w64, eqb}
use Rattle.std.specs.Prelude.{ℤ, pos, negsuc, Result, Ok}
use Rattle.std.specs.Int.Signed.{mag}
use Rattle.std.specs.Str.{IsUtf8}
use Rattle.std.specs.Str.Parse.{ParsesSigned}
use Rattle.std.specs.Fmt.{signed_decimal}
use Rattle.std.specs.List.{AllByRecursion, AllWithin}
use Rattle.std.proofs.Math.ListN.{set}
use Rattle.std.proofs.Math.Seq.{drop-cons}
use Rattle.std.proofs.lemmas.Int.{fits_signed_from_abs}
use Rattle.std.proofs.lemmas.Fmt.{parse-signed_decimal, IsAscii-signed}
use Rattle.std.proofs.lemmas.Str.{IsUtf8-from_ascii}
use Rattle.std.proofs.lemmas.List.{take_at, take_more, take_more_set, length-drop}
use Rattle.std.proofs.lemmas.List.{get_or-set_same, get_or-set_other}
use Rattle.std.proofs.lemmas.Bool.{cases_lt}
use Rattle.std.specs.Cmp.Lexicographic.{texts_ties}
use lib.Pointwise.{pointwise}
use Rattle.outside.proofs.FileMaps.{own_name}
use Rattle.int_vector.specs.Range.{InRange}
use Rattle.mat_files.specs.Words.{is_blank}
use Rattle.mat_files.specs.Texts.{line_of, joined_cells}
use Rattle.mat_files.proofs.PrintedNumbers.{word-signed_decimal}
use Rattle.restart_file.specs.Inside.Words.{ends_word, IsGuessed}

-- ---- a number in its written form
pub small_mag : (z : ℤ) → InRange z → mag z < 2 ^ 63
small_mag (pos n) h = omega (arith, h)
small_mag (negsuc n) h = omega (arith, h)

pub utf8_signed : (z : ℤ) (word : List ℕ) → InRange z → word ≡ signed_decimal z → IsUtf8 word
utf8_signed z word h is = subst IsUtf8 (sym is) (IsUtf8-from_ascii (signed_decimal z) (IsAscii-signed z (small_mag z h)))

pub parsed_signed : {E : Type 0} (z : ℤ) (word text : List ℕ) (r : Result ℤ E) → InRange z → word ≡ signed_decimal z → text ≡ word → ParsesSigned w64 10 text r → r ≡ Ok z
parsed_signed z word text r h is same p = parse-signed_decimal w64 z text r (fits_signed_from_abs w64 z (omega (arith, h))) (small_mag z h) (same ∙ is) p

-- ---- the words of a line
-- no byte of a written number ends a word
pub no_end : (bs : List ℕ) → AllByRecursion (λ b. is_blank b ≡ false) bs → AllByRecursion (λ b. ends_word b ≡ false) bs
no_end [] h = tt
no_end (b ∷ bs) h = (one b h.0, no_end bs h.1)
  where
    one : (b : ℕ) → is_blank b ≡ false → ends_word b ≡ false
    one b e = grind (arith, e)

-- the first place of a byte that ends a word is the word's length
stop_at : (word others : List ℕ) (b len : ℕ) → AllByRecursion (λ c. ends_word c ≡ false) word → ends_word b ≡ true
    → len ≤ length (word ++ b ∷ others)
    → ((k : ℕ) → k < len → ends_word (get_or (word ++ b ∷ others) k 0) ≡ false)
    → (len < length (word ++ b ∷ others) → ends_word (get_or (word ++ b ∷ others) len 0) ≡ true)
    → len ≡ length word
stop_at [] others b zero solid e within before at = refl
stop_at [] others b (suc len) solid e within before at = let f : true ≡ false = sym e ∙ before 0 (omega arith) in cc
stop_at (c ∷ word) others b zero solid e within before at = let f : false ≡ true = sym solid.0 ∙ at (omega arith) in cc
stop_at (c ∷ word) others b (suc len) solid e within before at =
    let rec : len ≡ length word = stop_at word others b len solid.1 e (omega (arith, within)) (λ k h. before (suc k) (omega (arith, h))) (λ h. at (omega (arith, h))) in omega (arith, rec)

-- a line of cells is the first number, a byte that ends it, and the line of the others, if there are any
pub record IsSplit (z : ℤ) (zs : List ℤ) : Type 0 where
  pub byte : ℕ
  pub others : List ℕ
  pub line : line_of (z ∷ zs) ≡ signed_decimal z ++ byte ∷ others
  pub ends : ends_word byte ≡ true
  pub line_of_others : 0 < length zs → others ≡ line_of zs

pub split : (z : ℤ) (zs : List ℤ) → IsSplit z zs
split z [] = record { byte = 10; others = []; line = refl; ends = refl; line_of_others = λ h. absurd (omega (arith, h)) }
split z (y ∷ ys) = record {
  byte = 32;
  others = joined_cells (y ∷ ys) ++ 10 ∷ [];
  line = append_assoc (signed_decimal z) (32 ∷ joined_cells (y ∷ ys)) (10 ∷ []);
  ends = refl;
  line_of_others = λ h. refl;
}

-- ---- one more cell
pub drop_length : (word others : List ℕ) → drop (length word) (word ++ others) ≡ others
drop_length [] others = refl
drop_length (c ∷ word) others = drop_length word others

at_front : (zs : List ℤ) (i : ℕ) → i < length zs → AllByRecursion InRange zs → InRange (get_or zs i (pos 0))
at_front [] i h a = absurd (omega (arith, h))
at_front (z ∷ zs) zero h a = a.0
at_front (z ∷ zs) (suc i) h a = at_front zs i (omega (arith, h)) a.1

module _ (zs : List ℤ) (i : ℕ) (cells : List ℤ) (rest word others behind : List ℕ) (len : ℕ) (number : ℤ)
    (inside : i < length cells) (same : length zs ≡ length cells) (range : AllByRecursion InRange zs)
    (within : len ≤ length rest) (before : (k : ℕ) → k < len → ends_word (get_or rest k 0) ≡ false) (at : len < length rest → ends_word (get_or rest len 0) ≡ true)
    (word_is : word ≡ take len rest) (others_are : others ≡ drop len rest)
    (number_is : (z : ℤ) → InRange z → word ≡ signed_decimal z → number ≡ z)
    (behind_is : (b : ℕ) (more : List ℕ) → others ≡ b ∷ more → behind ≡ more) (guessed : IsGuessed zs i cells rest) where
  z : ℤ
  z = get_or zs i (pos 0)

  pub guessed_more : IsGuessed zs (i + 1) (set cells i number) behind
  unfolding z
  guessed_more =
      let here : i < length zs = omega (arith, inside, same) in
      let in_range : InRange z = at_front zs i here range in
      let cut : drop i zs ≡ z ∷ drop (suc i) zs = drop-cons zs i (pos 0) here in
      let s : IsSplit z (drop (suc i) zs) = split z (drop (suc i) zs) in
      let line : rest ≡ signed_decimal z ++ s.byte ∷ s.others = guessed.others here ∙ ap line_of cut ∙ s.line in
      let solid : AllByRecursion (λ b. ends_word b ≡ false) (signed_decimal z) = no_end (signed_decimal z) (word-signed_decimal z (omega (arith, in_range))).solid in
      let len_is : len ≡ length (signed_decimal z) =
      stop_at (signed_decimal z) s.others s.byte len solid s.ends (subst (λ r. len ≤ length r) line within) (λ k h. subst (λ r. ends_word (get_or r k 0) ≡ false) line (before k h)) (λ h. subst (λ r. ends_word (get_or r len 0) ≡ true) line (at (subst (λ r. len < length r) (sym line) h)))
      in
      let z_is : number ≡ z = number_is z in_range (word_is ∙ ap (take len) line ∙ take_at (signed_decimal z) (s.byte ∷ s.others) len (sym len_is)) in
      let behind_are : behind ≡ s.others = behind_is s.byte s.others (others_are ∙ ap (λ n. drop n rest) len_is ∙ ap (drop (length (signed_decimal z))) line ∙ drop_length (signed_decimal z) (s.byte ∷ s.others)) in
      record {
        front = take_more_set cells i number inside ∙ ap (λ n. take i cells ++ n ∷ []) z_is ∙ ap (λ f. f ++ z ∷ []) guessed.front ∙ sym (take_more zs i (pos 0) here);
        others = λ h. behind_are ∙ s.line_of_others (more_left h) ∙ ap (λ n. line_of (drop n zs)) next;
      }
    where
      next : suc i ≡ i + 1
      next = omega arith

      more_left : i + 1 < length zs → 0 < length (drop (suc i) zs)
      more_left h = omega (arith, h, length-drop (suc i) zs)

-- one more cell in range
pub range_more : (cells : List ℤ) (i : ℕ) (n : ℤ) → i < length cells → InRange n → AllWithin InRange cells 0 i → AllWithin InRange (set cells i n) 0 (i + 1)
range_more cells i n inside here before k d low high =
    elim (cases_lt k i) [
      | inl l ↦ subst InRange (sym (get_or-set_other cells i k n d (λ e. absurd (omega (arith, e, l))))) (before k d low l)
      | inr g ↦ let e : k ≡ i = omega (arith, g, high) in subst (λ j. InRange (get_or (set cells i n) j d)) (sym e) (subst InRange (sym (get_or-set_same cells i n d inside)) here)
    ]

-- texts that are the same are found equal
pub found_equal : (x y : List ℕ) (b : Bool) → b ≡ pointwise eqb x y → x ≡ y → b ≡ true
found_equal x y b e same = e ∙ texts_ties x y ∙ own_name x y same
