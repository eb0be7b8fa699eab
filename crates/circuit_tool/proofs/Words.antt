-- Supports as words: the bits of a vector, one after another, say its support, and one word is within another where the supports are.
use Rattle.std.proofs.Common.{◌≡◌, ℕ, zero, suc, ◌+◌, ◌*◌, ◌/◌, ◌%◌, ◌^◌, ◌<◌, ◌≤◌, min, List, [], ◌∷◌, length, get_or, drop, refl, ap, ap₂, sym, ◌∙◌, arith, Bool, true, false}
use Rattle.std.specs.Prelude.{ℤ, pos, negsuc, bit_and, ◌==◌, ◌&&◌, not}
use Rattle.std.specs.Int.{bit_at}
use Rattle.std.specs.Int.Bits.{and_self}
use Rattle.std.proofs.lemmas.Nat.{and_le_l, and_comm}
use Rattle.std.proofs.lemmas.Nat.Bits.{bit_at_and, bit_at_lowest, bit_at-suc, same_from_bits}
use Rattle.std.proofs.lemmas.List.{drop_more}
use Rattle.std.proofs.Math.Nat.{pow-le-pow_right}
use Rattle.std.proofs.lemmas.Bool.{eq-eqb, eqb-true}
use Rattle.int_vector.specs.Vectors.{IsZero}
use Rattle.circuit_tool.specs.Circuits.{IsWithinSupport, IsStrictlyWithin}
use Rattle.circuit_tool.specs.Inside.Supports.{bit_of, word_from, word_of, is_within, is_strictly_within}

pub bit_small : (x : ℤ) → bit_of x ≤ 1
bit_small (pos zero) = omega arith
bit_small (pos (suc n)) = omega arith
bit_small (negsuc n) = omega arith

-- ---- the loop over the entries
pub room : (word i : ℕ) → word < 2 ^ i → i < 64 → word < 2 ^ 63
room word i h l = let e : 2 ^ i ≤ 2 ^ 63 = pow-le-pow_right {n = 2} (omega arith) {i = i} {j = 63} (omega arith) in omega (arith, e)

pub grown : (word i b : ℕ) → word < 2 ^ i → b ≤ 1 → 2 * word + b < 2 ^ (i + 1)
grown word i b h l = let e : 2 ^ (i + 1) ≡ 2 * 2 ^ i = power i in omega (arith, e) where
  power : (i : ℕ) → 2 ^ (i + 1) ≡ 2 * 2 ^ i
  power i = let e : i + 1 ≡ suc i = omega arith in rw e (omega arith)

pub word_more : (v : List ℤ) (i : ℕ) (d : ℤ) (word : ℕ) → i < length v → word_from word (drop i v) ≡ word_from (2 * word + bit_of (get_or v i d)) (drop (i + 1) v)
word_more v i d word h = ap (word_from word) (drop_more v i d h)

-- ---- bits
two : (a p : ℕ) → p ≤ 1 → ((2 * a + p) / 2 ≡ a) × ((2 * a + p) % 2 ≡ p)
two a p h = (omega arith, omega arith)

pub and_more : (a b p q : ℕ) → p ≤ 1 → q ≤ 1 → bit_and (2 * a + p) (2 * b + q) ≡ 2 * bit_and a b + min p q
and_more a b p q h k = same_from_bits (bit_and (2 * a + p) (2 * b + q)) (2 * bit_and a b + min p q) each where
  each : (i : ℕ) → bit_at (bit_and (2 * a + p) (2 * b + q)) i ≡ bit_at (2 * bit_and a b + min p q) i
  each zero =
      bit_at_and (2 * a + p) (2 * b + q) 0
      ∙ ap₂ min (bit_at_lowest (2 * a + p) ∙ (two a p h).1) (bit_at_lowest (2 * b + q) ∙ (two b q k).1)
      ∙ sym (bit_at_lowest (2 * bit_and a b + min p q) ∙ (two (bit_and a b) (min p q) (omega arith)).1)
  each (suc i) =
      bit_at_and (2 * a + p) (2 * b + q) (suc i)
      ∙ ap₂ min (bit_at-suc (2 * a + p) i ∙ ap (λ n. bit_at n i) (two a p h).0) (bit_at-suc (2 * b + q) i ∙ ap (λ n. bit_at n i) (two b q k).0)
      ∙ sym (bit_at_and a b i)
      ∙ sym (bit_at-suc (2 * bit_and a b + min p q) i ∙ ap (λ n. bit_at n i) (two (bit_and a b) (min p q) (omega arith)).0)

-- an entry's bit is within another's where it is 0 where that is
entry_from_bits : (x y : ℤ) → min (bit_of x) (bit_of y) ≡ bit_of x → y ≡ pos 0 → x ≡ pos 0
entry_from_bits (pos zero) y h e = refl
entry_from_bits (pos (suc n)) y h e = let f : bit_of y ≡ 0 = ap bit_of e in absurd (omega arith)
entry_from_bits (negsuc n) y h e = let f : bit_of y ≡ 0 = ap bit_of e in absurd (omega arith)

bits_from_entry : (x y : ℤ) → (y ≡ pos 0 → x ≡ pos 0) → min (bit_of x) (bit_of y) ≡ bit_of x
bits_from_entry x (pos zero) h = let f : bit_of x ≡ 0 = ap bit_of (h refl) in omega arith
bits_from_entry x (pos (suc n)) h = omega (arith, bit_small x)
bits_from_entry x (negsuc n) h = omega (arith, bit_small x)

pub within_from_words : (a b : ℕ) (u v : List ℤ) → length u ≡ length v → bit_and (word_from a u) (word_from b v) ≡ word_from a u → (bit_and a b ≡ a) × IsWithinSupport u v
within_from_words a b [] [] e h = (h, tt)
within_from_words a b [] (y ∷ v) e h = absurd (omega arith)
within_from_words a b (x ∷ u) [] e h = absurd (omega arith)
within_from_words a b (x ∷ u) (y ∷ v) e h =
    let r = within_from_words (2 * a + bit_of x) (2 * b + bit_of y) u v (omega arith) h in
    let s : 2 * bit_and a b + min (bit_of x) (bit_of y) ≡ 2 * a + bit_of x = sym (and_more a b (bit_of x) (bit_of y) (bit_small x) (bit_small y)) ∙ r.0 in
    (omega (arith, s, and_le_l a b, bit_small x), (entry_from_bits x y (omega (arith, s, and_le_l a b, bit_small x)), r.1))

pub words_from_within : (a b : ℕ) (u v : List ℤ) → bit_and a b ≡ a → IsWithinSupport u v → bit_and (word_from a u) (word_from b v) ≡ word_from a u
words_from_within a b [] [] e h = e
words_from_within a b [] (y ∷ v) e h = absurd h
words_from_within a b (x ∷ u) [] e h = absurd h
words_from_within a b (x ∷ u) (y ∷ v) e h =
    words_from_within (2 * a + bit_of x) (2 * b + bit_of y) u v
    (and_more a b (bit_of x) (bit_of y) (bit_small x) (bit_small y) ∙ ap₂ (λ m n. 2 * m + n) e (bits_from_entry x y h.0)) h.1

-- ---- the tests
pub within_of_test : (u v : List ℤ) → length u ≡ length v → is_within (word_of u) (word_of v) ≡ true → IsWithinSupport u v
within_of_test u v e h = (within_from_words 0 0 u v e (eqb-true (bit_and (word_of u) (word_of v)) (word_of u) h)).1

pub test_of_within : (u v : List ℤ) → IsWithinSupport u v → is_within (word_of u) (word_of v) ≡ true
test_of_within u v h = eq-eqb (bit_and (word_of u) (word_of v)) (word_of u) (words_from_within 0 0 u v refl h)

and_parts : (p q : Bool) → (p && q) ≡ true → (p ≡ true) × (q ≡ true)
and_parts true q e = (refl, e)
and_parts false q e = cc

not_equal : (a b : ℕ) → not (a == b) ≡ true → a ≡ b → ⊥
not_equal a b h e = let f : (a == b) ≡ true = eq-eqb a b e in cc

unequal : (a b : ℕ) → (a ≡ b → ⊥) → not (a == b) ≡ true
unequal a b h = elim (a == b) as (λ t. (a == b) ≡ t → not t ≡ true) [ true ↦ λ e. absurd (h (eqb-true a b e)) | false ↦ λ e. refl ] refl

pub strict_of_test : (u v : List ℤ) → length u ≡ length v → is_strictly_within (word_of u) (word_of v) ≡ true → IsStrictlyWithin u v
strict_of_test u v e h =
    let p = and_parts (is_within (word_of u) (word_of v)) (not (word_of u == word_of v)) h in record {
      within = within_of_test u v e p.0;
      less = λ w.
          let f : bit_and (word_of u) (word_of v) ≡ word_of u = eqb-true (bit_and (word_of u) (word_of v)) (word_of u) p.0 in
          let g : bit_and (word_of v) (word_of u) ≡ word_of v = words_from_within 0 0 v u refl w in
          not_equal (word_of u) (word_of v) p.1 (sym f ∙ and_comm (word_of u) (word_of v) ∙ g);
    }

pub test_of_strict : (u v : List ℤ) → length u ≡ length v → IsStrictlyWithin u v → is_strictly_within (word_of u) (word_of v) ≡ true
test_of_strict u v e h =
    let differ : word_of u ≡ word_of v → ⊥ = λ same.
    h.less ((within_from_words 0 0 v u (sym e) (ap (λ n. bit_and n (word_of u)) (sym same) ∙ and_self (word_of u) ∙ same)).1) in
    ap₂ (λ p q. p && q) (test_of_within u v h.within) (unequal (word_of u) (word_of v) differ)

-- ---- within, of numbers
within_trans : (a b c : ℕ) → bit_and a b ≡ a → bit_and b c ≡ b → bit_and a c ≡ a
within_trans a b c h k = same_from_bits (bit_and a c) a (λ i.
    let p : min (bit_at a i) (bit_at b i) ≡ bit_at a i = sym (bit_at_and a b i) ∙ ap (λ n. bit_at n i) h in
    let q : min (bit_at b i) (bit_at c i) ≡ bit_at b i = sym (bit_at_and b c i) ∙ ap (λ n. bit_at n i) k in
    bit_at_and a c i ∙ least (bit_at a i) (bit_at b i) (bit_at c i) p q) where
      least : (x y z : ℕ) → min x y ≡ x → min y z ≡ y → min x z ≡ x
      least x y z p q = omega arith

-- what is within something strictly within is strictly within
pub strict_below : (k w v : ℕ) → is_within k w ≡ true → is_strictly_within w v ≡ true → is_strictly_within k v ≡ true
strict_below k w v h s =
    let p = and_parts (is_within w v) (not (w == v)) s in
    let f : bit_and k w ≡ k = eqb-true (bit_and k w) k h in
    let g : bit_and w v ≡ w = eqb-true (bit_and w v) w p.0 in
    let differ : k ≡ v → ⊥ = λ e.
    let back : bit_and w v ≡ v = and_comm w v ∙ ap (λ n. bit_and n w) (sym e) ∙ f ∙ e in
    not_equal w v p.1 (sym g ∙ back) in
    ap₂ (λ a b. a && b) (eq-eqb (bit_and k v) k (within_trans k w v f g)) (unequal k v differ)

-- ---- the zero vector
zero_bits : (a : ℕ) (v : List ℤ) → word_from a v ≡ 0 → (a ≡ 0) × IsZero v
zero_bits a [] h = (h, tt)
zero_bits a (x ∷ v) h =
    let r = zero_bits (2 * a + bit_of x) v h in
    (omega (arith, r.0), (zero_entry x (omega (arith, r.0)), r.1)) where
      zero_entry : (x : ℤ) → bit_of x ≡ 0 → x ≡ pos 0
      zero_entry (pos zero) e = refl
      zero_entry (pos (suc n)) e = absurd (omega arith)
      zero_entry (negsuc n) e = absurd (omega arith)

bits_of_zero : (v : List ℤ) → IsZero v → word_from 0 v ≡ 0
bits_of_zero [] z = refl
bits_of_zero (x ∷ v) z = ap (λ b. word_from b v) (let e : bit_of x ≡ 0 = ap bit_of z.0 in first (bit_of x) e) ∙ bits_of_zero v z.1 where
  first : (b : ℕ) → b ≡ 0 → 2 * 0 + b ≡ 0
  first b e = omega arith

pub nonzero_of_word : (v : List ℤ) → not (word_of v == 0) ≡ true → IsZero v → ⊥
nonzero_of_word v h z = not_equal (word_of v) 0 h (bits_of_zero v z)

pub word_of_nonzero : (v : List ℤ) → (IsZero v → ⊥) → not (word_of v == 0) ≡ true
word_of_nonzero v h = unequal (word_of v) 0 (λ e. h (zero_bits 0 v e).1)
