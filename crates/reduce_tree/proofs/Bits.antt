-- Sets of bits: the union and the common bits of two, and a test for a part.
use Rattle.std.proofs.Common.{◌≡◌, ◌≢◌, ℕ, ◌-◌, ◌*◌, ◌%◌, ◌^◌, ◌≤◌, ◌<◌, max, min, sym, ap, ◌∙◌, arith, inl, inr}
use Rattle.std.specs.Prelude.{bit_or, bit_and}
use Rattle.std.specs.Int.{Width, bit_at, bit_not, w128}
use mir.Val.{bits}
use Rattle.std.proofs.lemmas.Bool.{cases_lt}
use Rattle.std.proofs.lemmas.Nat.Bits.{bit_at_or, bit_at_and, bit_at_not, bit_at-zero, bit_at-lt, bit_at_above, bit_at_clear_same, bit_at_clear_other, same_from_bits}
use Rattle.std.proofs.lemmas.Nat.{and_le_l}
use Rattle.reduce_tree.specs.Bits.{IsPartOf}

max_assoc : (x y z : ℕ) → max (max x y) z ≡ max x (max y z)
max_assoc x y z = omega arith

pub or_assoc : (a b c : ℕ) → bit_or (bit_or a b) c ≡ bit_or a (bit_or b c)
or_assoc a b c = same_from_bits (bit_or (bit_or a b) c) (bit_or a (bit_or b c)) (λ i.
    bit_at_or (bit_or a b) c i ∙ ap (λ n. max n (bit_at c i)) (bit_at_or a b i) ∙ max_assoc (bit_at a i) (bit_at b i) (bit_at c i)
    ∙ sym (bit_at_or a (bit_or b c) i ∙ ap (λ n. max (bit_at a i) n) (bit_at_or b c i)))

pub part_self : (a : ℕ) → IsPartOf a a
part_self a = λ i. omega arith

pub part_trans : (a b c : ℕ) → IsPartOf a b → IsPartOf b c → IsPartOf a c
part_trans a b c f g = λ i. below_trans (bit_at a i) (bit_at b i) (bit_at c i) (f i) (g i)
  where
    below_trans : (x y z : ℕ) → x ≤ y → y ≤ z → x ≤ z
    below_trans x y z h k = omega arith

pub zero_part : (b : ℕ) → IsPartOf 0 b
zero_part b = λ i. none (bit_at 0 i) (bit_at b i) (bit_at-zero i)
  where
    none : (x y : ℕ) → x ≡ 0 → x ≤ y
    none x y e = omega arith

-- a union of parts is part of the union
pub or_part : (a b c d : ℕ) → IsPartOf a c → IsPartOf b d → IsPartOf (bit_or a b) (bit_or c d)
or_part a b c d f g = λ i. both (bit_at a i) (bit_at b i) (bit_at c i) (bit_at d i) (bit_at (bit_or a b) i) (bit_at (bit_or c d) i) (f i) (g i) (bit_at_or a b i) (bit_at_or c d i)
  where
    both : (w x y z u v : ℕ) → w ≤ y → x ≤ z → u ≡ max w x → v ≡ max y z → u ≤ v
    both w x y z u v h k e q = omega arith

-- the common bits are part of each
pub and_part_first : (a b : ℕ) → IsPartOf (bit_and a b) a
and_part_first a b = λ i. one (bit_at a i) (bit_at b i) (bit_at (bit_and a b) i) (bit_at_and a b i)
  where
    one : (x y u : ℕ) → u ≡ min x y → u ≤ x
    one x y u e = omega arith

pub and_part_second : (a b : ℕ) → IsPartOf (bit_and a b) b
and_part_second a b = λ i. one (bit_at a i) (bit_at b i) (bit_at (bit_and a b) i) (bit_at_and a b i)
  where
    one : (x y u : ℕ) → u ≡ min x y → u ≤ y
    one x y u e = omega arith

-- a part of b has no bit outside b
pub part_meets_none : (a b : ℕ) → a < 2 ^ 128 → b < 2 ^ 128 → IsPartOf a b → bit_and a (bit_not w128 b) ≡ 0
part_meets_none a b fits_a fits_b h = same_from_bits (bit_and a (bit_not w128 b)) 0 (λ i.
    bit_at_and a (bit_not w128 b) i ∙ none i ∙ sym (bit_at-zero i))
  where
    inside : (x y z : ℕ) → x ≤ y → y < 2 → z ≡ 1 - y → min x z ≡ 0
    inside x y z f l e = omega arith

    above : (x z : ℕ) → x ≡ 0 → min x z ≡ 0
    above x z e = omega arith

    none : (i : ℕ) → min (bit_at a i) (bit_at (bit_not w128 b) i) ≡ 0
    none i = elim (cases_lt i 128) [
      | inl l ↦ inside (bit_at a i) (bit_at b i) (bit_at (bit_not w128 b) i) (h i) (bit_at-lt b i) (bit_at_not w128 b i fits_b l)
      | inr l ↦ above (bit_at a i) (bit_at (bit_not w128 b) i) (bit_at_above a 128 i fits_a l)
    ]

-- a part of bits that meet none of those outside meets none
pub part_apart : (a b outside : ℕ) → IsPartOf a b → bit_and b outside ≡ 0 → bit_and a outside ≡ 0
part_apart a b outside h e = same_from_bits (bit_and a outside) 0 (λ i.
    bit_at_and a outside i
    ∙ less (bit_at a i) (bit_at b i) (bit_at outside i) (h i) (sym (bit_at_and b outside i) ∙ ap (λ n. bit_at n i) e ∙ bit_at-zero i)
    ∙ sym (bit_at-zero i))
  where
    less : (x y z : ℕ) → x ≤ y → min y z ≡ 0 → min x z ≡ 0
    less x y z f g = omega arith

-- ---- sets of classes
pub set_kept : (a b i : ℕ) → bit_at a i ≡ 1 → bit_at (bit_or a b) i ≡ 1
set_kept a b i e = kept (bit_at a i) (bit_at b i) (bit_at (bit_or a b) i) e (bit_at_or a b i) (bit_at-lt (bit_or a b) i)
  where
    kept : (x y u : ℕ) → x ≡ 1 → u ≡ max x y → u < 2 → u ≡ 1
    kept x y u e m l = omega arith

pub set_shared : (a b i : ℕ) → bit_at a i ≡ 1 → bit_at b i ≡ 1 → bit_at (bit_and a b) i ≡ 1
set_shared a b i e f = shared (bit_at a i) (bit_at b i) (bit_at (bit_and a b) i) e f (bit_at_and a b i)
  where
    shared : (x y u : ℕ) → x ≡ 1 → y ≡ 1 → u ≡ min x y → u ≡ 1
    shared x y u e f m = omega arith

pub set_of_both : (a b i : ℕ) → bit_at (bit_and a b) i ≡ 1 → bit_at a i ≡ 1
set_of_both a b i e = first (bit_at a i) (bit_at b i) (bit_at (bit_and a b) i) e (bit_at_and a b i) (bit_at-lt a i)
  where
    first : (x y u : ℕ) → u ≡ 1 → u ≡ min x y → x < 2 → x ≡ 1
    first x y u e m l = omega arith

pub set_inside : (w : Width) (n i : ℕ) → n < 2 ^ bits w → bit_at n i ≡ 1 → i < bits w
set_inside w n i l e = elim (cases_lt i (bits w)) [
  | inl h ↦ h
  | inr h ↦ absurd (one_or_zero (bit_at n i) e (bit_at_above n (bits w) i l h))
]
  where
    one_or_zero : (x : ℕ) → x ≡ 1 → x ≡ 0 → ⊥
    one_or_zero x e f = omega arith

-- the set without one of its members is smaller, and has the others
pub cleared_less : (w : Width) (n k : ℕ) → k < bits w → bit_at n k ≡ 1 → bit_and n (bit_not w (1 * 2 ^ k % 2 ^ bits w)) < n
cleared_less w n k l e = elim (cases_lt (bit_and n (bit_not w (1 * 2 ^ k % 2 ^ bits w))) n) [
  | inl h ↦ h
  | inr h ↦ absurd (differ (bit_at n k) (bit_at (bit_and n (bit_not w (1 * 2 ^ k % 2 ^ bits w))) k) e (bit_at_clear_same w n k l)
      (ap (λ m. bit_at m k) (same n (bit_and n (bit_not w (1 * 2 ^ k % 2 ^ bits w))) h (and_le_l n (bit_not w (1 * 2 ^ k % 2 ^ bits w))))))
]
  where
    differ : (x y : ℕ) → x ≡ 1 → y ≡ 0 → x ≡ y → ⊥
    differ x y e f g = omega arith

    same : (m x : ℕ) → m ≤ x → x ≤ m → m ≡ x
    same m x h k = omega arith

pub cleared_other : (w : Width) (n k c : ℕ) → n < 2 ^ bits w → k < bits w → c ≢ k → bit_at n c ≡ 1 → bit_at (bit_and n (bit_not w (1 * 2 ^ k % 2 ^ bits w))) c ≡ 1
cleared_other w n k c fits l d e = bit_at_clear_other w n k l c (set_inside w n c fits e) d ∙ e
