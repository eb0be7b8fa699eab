-- Marks and signatures: what a loop has found and what is left, and that a row below another has a part of its bits.
use Rattle.std.proofs.Common.{◌≡◌, ℕ, zero, suc, ◌+◌, ◌*◌, ◌^◌, ◌%◌, ◌≤◌, ◌<◌, List, [], ◌∷◌, length, take, drop, get_or, cond, ltb, sym, refl, ap, ◌∙◌, subst, arith, inl, inr}
use Rattle.std.specs.Prelude.{bit_or, ℤ, pos, negsuc, nat_abs}
use Rattle.std.specs.Int.Bits.{or_zero_r}
use Rattle.std.proofs.lemmas.Bool.{cases_Bool, cases_lt, lt-ltb, le-ltb}
use Rattle.std.proofs.lemmas.Int.{ints}
use Rattle.std.proofs.lemmas.Nat.{one_shl, mod_below, or_lt, pow_below}
use Rattle.int_vector.specs.Vectors.{IsWithin, ◌⊑◌}
use Rattle.reduce_tree.specs.declared.signature.TheConstants.{THRESHOLDS}
use Rattle.reduce_tree.specs.Bits.{IsPartOf}
use Rattle.reduce_tree.specs.Items.{item_at}
use Rattle.reduce_tree.specs.Signatures.{marks_of, entry_marks, signature_from, signature_of}
use Rattle.reduce_tree.proofs.Bits.{or_assoc, zero_part, or_part, part_self}

-- ---- the marks of one entry
marks_stop : (first : ℕ) (ts : List ℕ) (size level : ℕ) → level < length ts → size < get_or ts level 0 → marks_of first (drop level ts) size ≡ 0
marks_stop first [] size level h l = absurd (omega arith)
marks_stop first (t ∷ ts) size zero h l = ap (λ b. cond b 0 (bit_or (2 ^ (first % 128)) (marks_of (suc first) ts size))) (lt-ltb size t l)
marks_stop first (t ∷ ts) size (suc level) h l = marks_stop first ts size level (omega arith) l

marks_step : (first : ℕ) (ts : List ℕ) (size level : ℕ) → level < length ts → get_or ts level 0 ≤ size
    → marks_of first (drop level ts) size ≡ bit_or (2 ^ (first % 128)) (marks_of (suc first) (drop (suc level) ts) size)
marks_step first [] size level h l = absurd (omega arith)
marks_step first (t ∷ ts) size zero h l = ap (λ b. cond b 0 (bit_or (2 ^ (first % 128)) (marks_of (suc first) ts size))) (le-ltb size t l)
marks_step first (t ∷ ts) size (suc level) h l = marks_step first ts size level (omega arith) l

marks_end : (first : ℕ) (ts : List ℕ) (size level : ℕ) → length ts ≤ level → marks_of first (drop level ts) size ≡ 0
marks_end first [] size zero h = refl
marks_end first [] size (suc level) h = refl
marks_end first (t ∷ ts) size zero h = absurd (omega arith)
marks_end first (t ∷ ts) size (suc level) h = marks_end first ts size level (omega arith)

pub marks_stopped : (first : ℕ) (ts : List ℕ) (size level marks : ℕ) → marks_of first ts size ≡ bit_or marks (marks_of (first + level) (drop level ts) size)
    → level < length ts → size < get_or ts level 0 → marks ≡ marks_of first ts size
marks_stopped first ts size level marks e h l = sym (e ∙ ap (λ n. bit_or marks n) (marks_stop (first + level) ts size level h l) ∙ or_zero_r marks)

pub marks_ended : (first : ℕ) (ts : List ℕ) (size level marks : ℕ) → marks_of first ts size ≡ bit_or marks (marks_of (first + level) (drop level ts) size)
    → length ts ≤ level → marks ≡ marks_of first ts size
marks_ended first ts size level marks e h = sym (e ∙ ap (λ n. bit_or marks n) (marks_end (first + level) ts size level h) ∙ or_zero_r marks)

pub marks_more : (first : ℕ) (ts : List ℕ) (size level marks : ℕ) → marks_of first ts size ≡ bit_or marks (marks_of (first + level) (drop level ts) size)
    → level < length ts → get_or ts level 0 ≤ size
    → marks_of first ts size ≡ bit_or (bit_or marks (1 * 2 ^ ((first + level) % 128) % 2 ^ 128)) (marks_of (first + (level + 1)) (drop (level + 1) ts) size)
marks_more first ts size level marks e h l =
    let bit : ℕ = (first + level) % 128 in
    let one : 1 * 2 ^ ((first + level) % 128) % 2 ^ 128 ≡ 2 ^ ((first + level) % 128) = one_shl ((first + level) % 128) 128 (mod_below (first + level) 128 (omega arith)) in
    let next : suc (first + level) ≡ first + (level + 1) = omega arith in
    let place : suc level ≡ level + 1 = omega arith in
    e ∙ ap (λ n. bit_or marks n) (marks_step (first + level) ts size level h l) ∙ sym (or_assoc marks (2 ^ ((first + level) % 128)) (marks_of (suc (first + level)) (drop (suc level) ts) size))
    ∙ ap (λ n. bit_or (bit_or marks n) (marks_of (suc (first + level)) (drop (suc level) ts) size)) (sym one)
    ∙ ap (λ n. bit_or (bit_or marks (1 * 2 ^ ((first + level) % 128) % 2 ^ 128)) (marks_of n (drop (suc level) ts) size)) next
    ∙ ap (λ n. bit_or (bit_or marks (1 * 2 ^ ((first + level) % 128) % 2 ^ 128)) (marks_of (first + (level + 1)) (drop n ts) size)) place

-- ---- the signature of a row
pub no_marks : (levels column : ℕ) → entry_marks levels column (pos 0) ≡ 0
no_marks zero column = refl
no_marks (suc levels) column = refl

signature_step : (levels column j : ℕ) (row : List ℤ) → j < length row → signature_from levels column (drop j row) ≡ bit_or (entry_marks levels column (get_or row j (pos 0))) (signature_from levels (suc column) (drop (suc j) row))
signature_step levels column j [] h = absurd (omega arith)
signature_step levels column zero (x ∷ row) h = refl
signature_step levels column (suc j) (x ∷ row) h = signature_step levels column j row (omega arith)

signature_end : (levels column j : ℕ) (row : List ℤ) → length row ≤ j → signature_from levels column (drop j row) ≡ 0
signature_end levels column zero [] h = refl
signature_end levels column (suc j) [] h = refl
signature_end levels column zero (x ∷ row) h = absurd (omega arith)
signature_end levels column (suc j) (x ∷ row) h = signature_end levels column j row (omega arith)

pub signature_ended : (levels j found : ℕ) (row : List ℤ) → signature_of levels row ≡ bit_or found (signature_from levels j (drop j row)) → length row ≤ j → found ≡ signature_of levels row
signature_ended levels j found row e h = sym (e ∙ ap (λ n. bit_or found n) (signature_end levels j j row h) ∙ or_zero_r found)

pub signature_more : (levels j found : ℕ) (row : List ℤ) → signature_of levels row ≡ bit_or found (signature_from levels j (drop j row)) → j < length row
    → signature_of levels row ≡ bit_or (bit_or found (entry_marks levels j (get_or row j (pos 0)))) (signature_from levels (j + 1) (drop (j + 1) row))
signature_more levels j found row e h =
    let m : ℕ = entry_marks levels j (get_or row j (pos 0)) in
    let next : suc j ≡ j + 1 = omega arith in
    e ∙ ap (λ n. bit_or found n) (signature_step levels j j row h) ∙ sym (or_assoc found (entry_marks levels j (get_or row j (pos 0))) (signature_from levels (suc j) (drop (suc j) row)))
    ∙ ap (λ n. bit_or (bit_or found (entry_marks levels j (get_or row j (pos 0)))) (signature_from levels n (drop n row))) next

-- ---- the law of signatures
marks_part : (bit : ℕ) (ts : List ℕ) (a b : ℕ) → a ≤ b → IsPartOf (marks_of bit ts a) (marks_of bit ts b)
marks_part bit [] a b h = zero_part 0
marks_part bit (t ∷ ts) a b h = elim (cases_lt a t) [
  | inl l ↦ subst (λ n. IsPartOf n (marks_of bit (t ∷ ts) b)) (sym (ap (λ c. cond c 0 (bit_or (2 ^ (bit % 128)) (marks_of (suc bit) ts a))) (lt-ltb a t l))) (zero_part (marks_of bit (t ∷ ts) b))
  | inr l ↦
      let first : marks_of bit (t ∷ ts) a ≡ bit_or (2 ^ (bit % 128)) (marks_of (suc bit) ts a) = ap (λ c. cond c 0 (bit_or (2 ^ (bit % 128)) (marks_of (suc bit) ts a))) (le-ltb a t l) in
      let second : marks_of bit (t ∷ ts) b ≡ bit_or (2 ^ (bit % 128)) (marks_of (suc bit) ts b) = ap (λ c. cond c 0 (bit_or (2 ^ (bit % 128)) (marks_of (suc bit) ts b))) (le-ltb b t (omega arith)) in
      subst (λ n. IsPartOf n (marks_of bit (t ∷ ts) b)) (sym first)
      (subst (λ n. IsPartOf (bit_or (2 ^ (bit % 128)) (marks_of (suc bit) ts a)) n) (sym second)
      (or_part (2 ^ (bit % 128)) (marks_of (suc bit) ts a) (2 ^ (bit % 128)) (marks_of (suc bit) ts b) (part_self (2 ^ (bit % 128))) (marks_part (suc bit) ts a b h)))
]

pub not_against : (n m : ℕ) → IsWithin (pos (suc n)) (negsuc m) → ⊥
not_against n m w = absurd (grind (arith, ints, w.same_sign))

pub not_against_below : (n m : ℕ) → IsWithin (negsuc n) (pos m) → ⊥
not_against_below n zero w = absurd (omega (arith, ints, w.no_larger))
not_against_below n (suc m) w = absurd (grind (arith, ints, w.same_sign))

entry_part : (levels column : ℕ) (x y : ℤ) → IsWithin x y → IsPartOf (entry_marks levels column x) (entry_marks levels column y)
entry_part levels column (pos zero) y w = subst (λ n. IsPartOf n (entry_marks levels column y)) (sym (no_marks levels column)) (zero_part (entry_marks levels column y))
entry_part levels column (pos (suc n)) (pos m) w = marks_part (2 * column * levels) (take levels THRESHOLDS) (suc n) m w.no_larger
entry_part levels column (pos (suc n)) (negsuc m) w = absurd (not_against n m w)
entry_part levels column (negsuc n) (pos m) w = absurd (not_against_below n m w)
entry_part levels column (negsuc n) (negsuc m) w = marks_part ((2 * column + 1) * levels) (take levels THRESHOLDS) (suc n) (suc m) w.no_larger

-- the signature of a row below another is part of the other's
pub signature_part : (levels column : ℕ) (u v : List ℤ) → u ⊑ v → IsPartOf (signature_from levels column u) (signature_from levels column v)
signature_part levels column [] [] h = zero_part 0
signature_part levels column [] (y ∷ v) h = absurd h
signature_part levels column (x ∷ u) [] h = absurd h
signature_part levels column (x ∷ u) (y ∷ v) h =
    or_part (entry_marks levels column x) (signature_from levels (suc column) u) (entry_marks levels column y) (signature_from levels (suc column) v)
    (entry_part levels column x y h.0) (signature_part levels (suc column) u v h.1)

-- ---- bits within 128
marks_fits : (bit : ℕ) (ts : List ℕ) (size : ℕ) → marks_of bit ts size < 2 ^ 128
marks_fits bit [] size = omega arith
marks_fits bit (t ∷ ts) size = elim (cases_Bool (ltb size t)) [
  | inl l ↦ subst (λ b. cond b 0 (bit_or (2 ^ (bit % 128)) (marks_of (suc bit) ts size)) < 2 ^ 128) (sym l) (omega arith)
  | inr l ↦ subst (λ b. cond b 0 (bit_or (2 ^ (bit % 128)) (marks_of (suc bit) ts size)) < 2 ^ 128) (sym l)
      (or_lt 128 (2 ^ (bit % 128)) (marks_of (suc bit) ts size) (pow_below (bit % 128) 128 (mod_below bit 128 (omega arith))) (marks_fits (suc bit) ts size))
]

entry_fits : (levels column : ℕ) (x : ℤ) → entry_marks levels column x < 2 ^ 128
entry_fits levels column x = marks_fits (item_at column x * levels) (take levels THRESHOLDS) (nat_abs x)

pub signature_fits : (levels column : ℕ) (row : List ℤ) → signature_from levels column row < 2 ^ 128
signature_fits levels column [] = omega arith
signature_fits levels column (x ∷ row) = or_lt 128 (entry_marks levels column x) (signature_from levels (suc column) row) (entry_fits levels column x) (signature_fits levels (suc column) row)
