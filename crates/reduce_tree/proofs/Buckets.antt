-- Buckets: what a word rules out, and the words once one row more is filed.
-- A word is true of each row of its group, so where the bounds do not admit it they admit no row of the group.
use Rattle.std.proofs.Common.{◌≡◌, ◌≢◌, ℕ, zero, suc, ◌+◌, ◌-◌, ◌/◌, ◌%◌, ◌≤◌, ◌<◌, List, [], ◌∷◌, ◌++◌, length, get_or, take, drop, sym, ap, ◌∙◌, subst, arith, inl, inr, length-append, ◌⊎◌}
use Rattle.std.specs.Prelude.{ℤ, bit_and, min}
use Rattle.std.specs.List.{AllByRecursion}
use Rattle.std.proofs.lemmas.Bool.{cases_lt}
use Rattle.std.proofs.lemmas.List.{take_all, get_or_append_left, get_or-take, length-take, length-drop, get_or-drop}
use Rattle.std.proofs.Math.Seq.{get_or-append_seam}
use Rattle.reduce_tree.specs.declared.bounds.Bounds.{Bounds}
use Rattle.reduce_tree.specs.declared.bounds.Word.{Word}
use Rattle.reduce_tree.specs.declared.tree.Filed.{Filed}
use Rattle.reduce_tree.specs.Inside.Bounds.{Admits, word_of, Covers}
use Rattle.reduce_tree.specs.Inside.Buckets.{nothing_filed, no_word, AreCommon, IsRuledOut, IsMarked, AreNoneBelow}
use Rattle.reduce_tree.proofs.Bits.{part_apart, part_trans, and_part_first, and_part_second}

-- ---- the search
-- what the bounds admit of a row they admit of a word that is true of it
admits_word : (bounds : Bounds) (word : Word) (f : Filed) → Covers word f → Admits bounds (word_of f) → Admits bounds word
admits_word bounds word f c a = record {
  bits = part_apart word.bits f.bits bounds.outside c.bits a.bits;
  size = omega (arith, c.size, a.size);
  place = omega (arith, c.place, a.place);
}

pub filed_at : (P : Filed → Type 0) (filed : List Filed) (k : ℕ) → AllByRecursion P filed → k < length filed → P (get_or filed k nothing_filed)
filed_at P [] k h l = absurd (omega arith)
filed_at P (f ∷ filed) zero h l = h.0
filed_at P (f ∷ filed) (suc k) h l = filed_at P filed k h.1 (omega arith)

-- a group whose word is ruled out is passed over
pub passed_over : (size : ℕ) (bucket : List Filed) (words : List Word) (rows : List (List ℤ)) (z : List ℤ) (bounds : Bounds) (n to : ℕ)
    → AllByRecursion (IsMarked rows z bounds) bucket → AreCommon size words bucket → IsRuledOut words n bounds → ((k : ℕ) → to ≤ k → k < to + size → k / size ≡ n)
    → AreNoneBelow bucket rows z bounds to → AreNoneBelow bucket rows z bounds (to + size)
passed_over size bucket words rows z bounds n to marked common out group none = λ k f l before below. elim (cases_lt k to) [
  | inl h ↦ none k h l before below
  | inr h ↦
      let e : k / size ≡ n = group k h f in
      out.1 (admits_word bounds (get_or words n no_word) (get_or bucket k nothing_filed)
      (subst (λ i. Covers (get_or words i no_word) (get_or bucket k nothing_filed)) e (common.covers k l (subst (λ i. i < length words) (sym e) out.0)))
      ((filed_at (IsMarked rows z bounds) bucket k marked l).admitted below before))
]

-- ---- the words once there is one row more
-- what the number n of rows says of the groups where the last one is whole, and where it is not
record IsWhole (size n : ℕ) : Type 0 where
  next : (n - 1) / size + 1 ≡ n / size
  old : (k : ℕ) → k / size < (n - 1) / size → k < n - 1
  last : (k : ℕ) → k / size ≡ (n - 1) / size → n - size ≤ k

record IsBroken (size n : ℕ) : Type 0 where
  next : (n - 1) / size ≡ n / size
  old : (k : ℕ) → k / size < (n - 1) / size → k < n - 1

whole_eight : (n : ℕ) → 0 < n → n % 8 ≡ 0 → IsWhole 8 n
whole_eight n l e = record { next = omega arith; old = λ k h. omega arith; last = λ k h. omega arith }

whole_block : (n : ℕ) → 0 < n → n % 64 ≡ 0 → IsWhole 64 n
whole_block n l e = record { next = omega arith; old = λ k h. omega arith; last = λ k h. omega arith }

broken_eight : (n : ℕ) → 0 < n → n % 8 ≢ 0 → IsBroken 8 n
broken_eight n l d = record { next = omega arith; old = λ k h. omega arith }

broken_block : (n : ℕ) → 0 < n → n % 64 ≢ 0 → IsBroken 64 n
broken_block n l d = record { next = omega arith; old = λ k h. omega arith }

-- where the rows but the last have their words, so has each row of an old group
module _ (size : ℕ) (words : List Word) (rows : List Filed) (some : 0 < length rows) (before : AreCommon size words (take (length rows - 1) rows)) where
  count_before : length words ≡ (length rows - 1) / size
  count_before = before.count ∙ ap (λ n. n / size) (omega (arith, length-take (length rows - 1) rows))

  covers_old : ((k : ℕ) → k / size < (length rows - 1) / size → k < length rows - 1) → (k : ℕ) → k / size < length words → Covers (get_or words (k / size) no_word) (get_or rows k nothing_filed)
  covers_old old k l =
      let f : k < length rows - 1 = old k (subst (λ n. k / size < n) count_before l) in
      subst (λ g. Covers (get_or words (k / size) no_word) g) (get_or-take (length rows - 1) rows k nothing_filed f)
      (before.covers k (omega (arith, f, length-take (length rows - 1) rows)) l)

  common_broken : IsBroken size (length rows) → AreCommon size words rows
  common_broken h = record {
    count = count_before ∙ h.next;
    covers = λ k l inside. covers_old h.old k inside;
  }

  common_whole : (word : Word) → IsWhole size (length rows) → ((k : ℕ) → k < length (drop (length rows - size) rows) → Covers word (get_or (drop (length rows - size) rows) k nothing_filed)) → AreCommon size (words ++ word ∷ []) rows
  common_whole word h covers = record {
    count = length-append words (word ∷ []) ∙ ap (λ n. n + 1) count_before ∙ h.next;
    covers = λ k l inside. elim (cases_lt (k / size) (length words)) [
      | inl f ↦ subst (λ w. Covers w (get_or rows k nothing_filed)) (sym (get_or_append_left words (word ∷ []) no_word (k / size) f)) (covers_old h.old k f)
      | inr f ↦
          let here : length words ≡ k / size = at_end (k / size) (length words) (length (words ++ word ∷ [])) f inside (length-append words (word ∷ [])) in
          let from : length rows - size ≤ k = h.last k (sym here ∙ count_before) in
          let place : length rows - size + (k - (length rows - size)) ≡ k = omega (arith, from) in
          subst (λ i. Covers (get_or (words ++ word ∷ []) i no_word) (get_or rows k nothing_filed)) here
          (subst (λ w. Covers w (get_or rows k nothing_filed)) (sym (get_or-append_seam words word [] no_word))
          (subst (λ g. Covers word g) (get_or-drop (length rows - size) rows (k - (length rows - size)) nothing_filed ∙ ap (λ i. get_or rows i nothing_filed) place)
          (covers (k - (length rows - size)) (inside_drop k from l))))
    ];
  }
    where
      at_end : (q m n : ℕ) → m ≤ q → q < n → n ≡ m + 1 → m ≡ q
      at_end q m n h l e = omega arith

      inside_drop : (k : ℕ) → length rows - size ≤ k → k < length rows → k - (length rows - size) < length (drop (length rows - size) rows)
      inside_drop k f l = omega (arith, f, l, length-drop (length rows - size) rows)

pub common_added : (size : ℕ) (words : List Word) (rows : List Filed) (word : Word) → (size ≡ 8) ⊎ (size ≡ 64) → 0 < length rows → AreCommon size words (take (length rows - 1) rows) → length rows % size ≡ 0
    → ((k : ℕ) → k < length (take (length rows - (length rows - size)) (drop (length rows - size) rows)) → Covers word (get_or (take (length rows - (length rows - size)) (drop (length rows - size) rows)) k nothing_filed)) → AreCommon size (words ++ word ∷ []) rows
common_added size words rows word is some before e covers =
    let all : take (length rows - (length rows - size)) (drop (length rows - size) rows) ≡ drop (length rows - size) rows = take_all (length rows - (length rows - size)) (drop (length rows - size) rows) (omega (arith, length-drop (length rows - size) rows)) in
    common_whole size words rows some before word (whole is e) (subst (λ (l : List Filed). (k : ℕ) → k < length l → Covers word (get_or l k nothing_filed)) all covers)
  where
    whole : (size ≡ 8) ⊎ (size ≡ 64) → length rows % size ≡ 0 → IsWhole size (length rows)
    whole (inl is) e = subst (λ s. IsWhole s (length rows)) (sym is) (whole_eight (length rows) some (subst (λ s. length rows % s ≡ 0) is e))
    whole (inr is) e = subst (λ s. IsWhole s (length rows)) (sym is) (whole_block (length rows) some (subst (λ s. length rows % s ≡ 0) is e))

pub common_kept : (size : ℕ) (words : List Word) (rows : List Filed) → (size ≡ 8) ⊎ (size ≡ 64) → 0 < length rows → AreCommon size words (take (length rows - 1) rows) → length rows % size ≢ 0 → AreCommon size words rows
common_kept size words rows is some before d = common_broken size words rows some before (broken is d)
  where
    broken : (size ≡ 8) ⊎ (size ≡ 64) → length rows % size ≢ 0 → IsBroken size (length rows)
    broken (inl is) d = subst (λ s. IsBroken s (length rows)) (sym is) (broken_eight (length rows) some (subst (λ s. length rows % s ≢ 0) is d))
    broken (inr is) d = subst (λ s. IsBroken s (length rows)) (sym is) (broken_block (length rows) some (subst (λ s. length rows % s ≢ 0) is d))

-- ---- one row more under one word
pub covers_step : (rows : List Filed) (i size place : ℕ) (word : Word) → ((k : ℕ) → k < i → Covers word (get_or rows k nothing_filed))
    → size ≡ min word.size (get_or rows i nothing_filed).size → place ≡ min word.place (get_or rows i nothing_filed).place
    → (k : ℕ) → k < i + 1 → Covers (record { bits = bit_and word.bits (get_or rows i nothing_filed).bits; size = size; place = place }) (get_or rows k nothing_filed)
covers_step rows i size place word before s p k l = elim (cases_lt k i) [
  | inl h ↦
      let c = before k h in
      record {
        bits = part_trans (bit_and word.bits (get_or rows i nothing_filed).bits) word.bits (get_or rows k nothing_filed).bits (and_part_first word.bits (get_or rows i nothing_filed).bits) c.bits;
        size = at_most size word.size (get_or rows i nothing_filed).size (get_or rows k nothing_filed).size s c.size;
        place = at_most place word.place (get_or rows i nothing_filed).place (get_or rows k nothing_filed).place p c.place;
      }
  | inr h ↦
      let e : i ≡ k = omega (arith, l, h) in
      subst (λ j. Covers (record { bits = bit_and word.bits (get_or rows i nothing_filed).bits; size = size; place = place }) (get_or rows j nothing_filed)) e (record {
        bits = and_part_second word.bits (get_or rows i nothing_filed).bits;
        size = omega (arith, s);
        place = omega (arith, p);
      })
]
  where
    at_most : (a b d e : ℕ) → a ≡ min b d → b ≤ e → a ≤ e
    at_most a b d e m l = omega arith
