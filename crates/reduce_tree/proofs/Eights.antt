-- The rows of an eight, or the last rows, as a part of a bucket; and the set of the rows that have no bit outside.
-- What is left of the set are rows that have not been looked at: in the end none is left, and each other row is not below.
use Rattle.std.proofs.Common.{◌≡◌, ◌≢◌, ℕ, ◌+◌, ◌-◌, ◌*◌, ◌%◌, ◌^◌, ◌≤◌, ◌<◌, ◌⊎◌, List, length, get_or, take, drop, sym, ap, ◌∙◌, subst, arith, inl, inr, None, Some, refl, eqb, zero, suc}
use Rattle.std.specs.Prelude.{ℤ, bit_and, bit_or}
use Rattle.std.specs.Int.{bit_at, bit_not, trailing_zeros, w8}
use Rattle.std.specs.List.{AllByRecursion}
use Rattle.std.specs.Int.Bits.{or_zero_r}
use Rattle.std.proofs.Math.Dec.{eqb-suc-zero}
use mir.Val.{bool_byte}
use Rattle.std.specs.Option.{MatchOption}
use Rattle.std.specs.declared.option.Option.{Option}
use Rattle.row_pool.specs.declared.RowId.{RowId}
use Rattle.std.proofs.lemmas.Bool.{cases_lt, cases_eq}
use Rattle.std.proofs.lemmas.List.{get_or-take, get_or-drop, length-take, length-drop}
use Rattle.std.proofs.lemmas.Nat.Bits.{bit_at-zero, bit_at-trailing_zeros, bit_at_set_same, bit_at_set_other}
use Rattle.reduce_tree.specs.declared.bounds.Bounds.{Bounds}
use Rattle.reduce_tree.specs.declared.tree.Filed.{Filed}
use Rattle.reduce_tree.specs.Inside.Buckets.{nothing_filed, IsMarked, IsNotBelow, AreNoneBelow, IsBelowAt, IsSetOfApart}
use Rattle.reduce_tree.proofs.Bits.{cleared_other}
use Rattle.reduce_tree.proofs.Buckets.{filed_at}

-- ---- a part of the rows
module _ (bucket : List Filed) (n from : ℕ) where
  part_at : (k : ℕ) → k < n → get_or (take n (drop from bucket)) k nothing_filed ≡ get_or bucket (from + k) nothing_filed
  part_at k l = get_or-take n (drop from bucket) k nothing_filed l ∙ get_or-drop from bucket k nothing_filed

  length_of_part : (k : ℕ) → k < length (take n (drop from bucket)) → (k < n) × (from + k < length bucket)
  length_of_part k l = (omega (arith, length-take n (drop from bucket)), omega (arith, length-take n (drop from bucket), length-drop from bucket))

  in_part : (k : ℕ) → from ≤ k → k < from + n → k < length bucket → k - from < length (take n (drop from bucket))
  in_part k f l h = omega (arith, f, l, h, length-take n (drop from bucket), length-drop from bucket)

  -- where none before a part is below z, and none of the part, none up to its end is
  pub none_in_part : (rows : List (List ℤ)) (z : List ℤ) (bounds : Bounds) → AreNoneBelow bucket rows z bounds from
      → AreNoneBelow (take n (drop from bucket)) rows z bounds (length (take n (drop from bucket))) → AreNoneBelow bucket rows z bounds (from + n)
  none_in_part rows z bounds before here = λ k l inside. elim (cases_lt k from) [
    | inl h ↦ before k h inside
    | inr h ↦
        let p : k - from < length (take n (drop from bucket)) = in_part k h l inside in
        let q : k - from < n = omega (arith, h, l) in
        let e : from + (k - from) ≡ k = omega (arith, h) in
        subst (IsNotBelow rows z bounds) (part_at (k - from) q ∙ ap (λ i. get_or bucket i nothing_filed) e) (here (k - from) p p)
  ]

  pub below_in_part : (rows : List (List ℤ)) (z : List ℤ) (bounds : Bounds) (id : ℕ) → IsBelowAt (take n (drop from bucket)) rows z bounds id → IsBelowAt bucket rows z bounds id
  below_in_part rows z bounds id (k, l, place, end, below) =
      (from + k, (length_of_part k l).1, sym (ap (λ (f : Filed). f.place) (part_at k (length_of_part k l).0)) ∙ place, end, below)

-- what a search of the rows from a place on says of all
pub found_from : (bucket : List Filed) (from : ℕ) (rows : List (List ℤ)) (z : List ℤ) (bounds : Bounds) (found : Option RowId) → AreNoneBelow bucket rows z bounds from
    → MatchOption found
    (AreNoneBelow (take (length bucket - from) (drop from bucket)) rows z bounds (length (take (length bucket - from) (drop from bucket))))
    (λ id. IsBelowAt (take (length bucket - from) (drop from bucket)) rows z bounds id.0)
    → MatchOption found (AreNoneBelow bucket rows z bounds (length bucket)) (λ id. IsBelowAt bucket rows z bounds id.0)
found_from bucket from rows z bounds None before here = λ k f l. none_in_part bucket (length bucket - from) from rows z bounds before here k (omega (arith, l)) l
found_from bucket from rows z bounds (Some id) before here = below_in_part bucket (length bucket - from) from rows z bounds id.0 here

-- ---- the set of the rows that have no bit outside
module _ (bucket : List Filed) (outside : ℕ) where
  pub apart_none : IsSetOfApart bucket outside 0 0
  apart_none k = ((λ e. absurd (differ (bit_at 0 k) e (bit_at-zero k))), (λ h. absurd (omega (arith, h.0))))
    where
      differ : (x : ℕ) → x ≡ 1 → x ≡ 0 → ⊥
      differ x e f = omega arith

  pub apart_more : (to set more : ℕ) → IsSetOfApart bucket outside to set → bit_and (get_or bucket to nothing_filed).bits outside ≡ 0
      → bit_at more to ≡ 1 → ((k : ℕ) → k ≢ to → bit_at more k ≡ bit_at set k) → IsSetOfApart bucket outside (to + 1) more
  apart_more to set more before here same others k = elim (cases_eq k to) [
    | inl e ↦ ((λ _. (omega (arith, e), subst (λ i. bit_and (get_or bucket i nothing_filed).bits outside ≡ 0) (sym e) here)), (λ _. ap (bit_at more) e ∙ same))
    | inr d ↦ (
      (λ s. let h = (before k).0 (sym (others k d) ∙ s) in (omega (arith, h.0), h.1)),
      (λ h. others k d ∙ (before k).1 (omega (arith, d, h.0), h.1)),
    )
  ]

  pub apart_same : (to set : ℕ) → IsSetOfApart bucket outside to set → bit_and (get_or bucket to nothing_filed).bits outside ≢ 0 → IsSetOfApart bucket outside (to + 1) set
  apart_same to set before here k = elim (cases_eq k to) [
    | inl e ↦ (
      (λ s. let h = (before k).0 s in (omega (arith, h.0), h.1)),
      (λ h. absurd (here (subst (λ i. bit_and (get_or bucket i nothing_filed).bits outside ≡ 0) e h.1))),
    )
    | inr d ↦ (
      (λ s. let h = (before k).0 s in (omega (arith, h.0), h.1)),
      (λ h. (before k).1 (omega (arith, d, h.0), h.1)),
    )
  ]

  -- the number of a row is put in as a 0 or a 1 that is moved to its bit
  pub apart_next : (to set flag : ℕ) → to < 8 → IsSetOfApart bucket outside to set → flag ≡ bool_byte (eqb (bit_and (get_or bucket to nothing_filed).bits outside) 0)
      → IsSetOfApart bucket outside (to + 1) (bit_or set (flag * 2 ^ to % 2 ^ 8))
  apart_next to set flag small before e = elim (flag_cases (bit_and (get_or bucket to nothing_filed).bits outside) flag e) [
    | inl h ↦
        subst (λ m. IsSetOfApart bucket outside (to + 1) (bit_or set (m * 2 ^ to % 2 ^ 8))) (sym h.1)
        (apart_more to set (bit_or set (1 * 2 ^ to % 2 ^ 8)) before h.0 (bit_at_set_same w8 set to small) (bit_at_set_other w8 set to small))
    | inr h ↦
        subst (λ m. IsSetOfApart bucket outside (to + 1) (bit_or set (m * 2 ^ to % 2 ^ 8))) (sym h.1)
        (subst (IsSetOfApart bucket outside (to + 1)) (sym (or_none set)) (apart_same to set before h.0))
  ]
    where
      flag_cases : (x flag : ℕ) → flag ≡ bool_byte (eqb x 0) → ((x ≡ 0) × (flag ≡ 1)) ⊎ ((x ≢ 0) × (flag ≡ 0))
      flag_cases zero flag e = inl (refl, e)
      flag_cases (suc x) flag e = inr ((λ h. absurd (omega (arith, h))), e ∙ ap bool_byte (eqb-suc-zero x))

      or_none : (n : ℕ) → bit_or n (0 * 2 ^ to % 2 ^ 8) ≡ n
      or_none n = let e : 0 * 2 ^ to % 2 ^ 8 ≡ 0 = omega arith in ap (bit_or n) e ∙ or_zero_r n

-- ---- the loop over the set
pub first_set : (set : ℕ) → set ≢ 0 → set < 2 ^ 8 → (trailing_zeros w8 set < 8) × (bit_at set (trailing_zeros w8 set) ≡ 1)
first_set set some fits = let h = bit_at-trailing_zeros w8 set (omega (arith, some)) fits in (h.0, h.1)

-- the rows whose numbers are not left have been looked at
abbrev pub AreLookedAt : List Filed → List (List ℤ) → List ℤ → Bounds → ℕ → Type 0
AreLookedAt bucket rows z bounds rest = (k : ℕ) → k < length bucket → (bit_at rest k ≡ 1) ⊎ IsNotBelow rows z bounds (get_or bucket k nothing_filed)

module _ (bucket : List Filed) (rows : List (List ℤ)) (z : List ℤ) (bounds : Bounds) where
  pub looked_at_begun : (set : ℕ) → AllByRecursion (IsMarked rows z bounds) bucket → IsSetOfApart bucket bounds.outside (length bucket) set → AreLookedAt bucket rows z bounds set
  looked_at_begun set marked apart = λ k l. elim (cases_eq (bit_at set k) 1) [
    | inl e ↦ inl e
    | inr d ↦ inr (λ before below. d ((apart k).1 (l, ((filed_at (IsMarked rows z bounds) bucket k marked l).admitted below before).bits)))
  ]

  pub looked_at_more : (rest k : ℕ) → rest < 2 ^ 8 → k < 8 → IsNotBelow rows z bounds (get_or bucket k nothing_filed) → AreLookedAt bucket rows z bounds rest
      → AreLookedAt bucket rows z bounds (bit_and rest (bit_not w8 (1 * 2 ^ k % 2 ^ 8)))
  looked_at_more rest k fits small here left = λ j l. elim (cases_eq j k) [
    | inl e ↦ inr (subst (λ i. IsNotBelow rows z bounds (get_or bucket i nothing_filed)) (sym e) here)
    | inr d ↦ elim (left j l) [
      | inl s ↦ inl (cleared_other w8 rest k j fits small d s)
      | inr p ↦ inr p
    ]
  ]
