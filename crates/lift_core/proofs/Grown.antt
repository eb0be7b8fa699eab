-- There is a grown list: the listed rows, the waiting ones of a norm and the irreducible sums of the pairs of this
-- norm are finitely many.
-- All that makes a sum can be tested, and there are as many pairs as the list has pairs of elements.
use Rattle.std.proofs.Common.{◌≡◌, ℕ, ◌+◌, List, refl, ap, sym, ◌∙◌, subst, arith, inl, inr, ◌⊎◌}
use Rattle.std.specs.Prelude.{ℤ, pos, ◌<ℤ◌, ◌≤ℤ◌, ◌*ℤ◌}
use Rattle.std.specs.List.{Contains}
use Rattle.std.proofs.lemmas.Bool.{cases_lt, cases_eq}
use Rattle.std.proofs.lemmas.Int.{ints}
use borrow.Author.Differences.{up, down}
use Rattle.int_vector.specs.Vectors.{◌⊑◌, IsWithin}
use Rattle.int_vector.specs.Operations.{add}
use Rattle.lift_core.specs.Systems.{LinearSystem}
use Rattle.lift_core.specs.Stages.{front, last, stage_norm, norm_cmp, IsWaitingAt}
use Rattle.lift_core.specs.PairSums.{HasSum, IsIrreducible, IsNewSum}
use Rattle.lift_core.specs.Walks.{IsGrown}
use Rattle.int_vector.proofs.Numbers.{within_parts, within_from_parts}
use Rattle.lift_core.proofs.Systems.{Test, test_zip, test_each, test_at_most, test_caps}
use Rattle.lift_core.proofs.Lists.{each_contained, each_from_contained}
use Rattle.lift_core.proofs.Finite.{IsFinite, finite_list, finite_same, finite_either, finite_image, finite_union, finite_ascending}
use Rattle.lift_core.proofs.Orders.{norm_cmp_total, norm_same}

test_less : (x y : ℤ) → Test (x <ℤ y)
test_less x y = elim (cases_lt (up x + down y) (up y + down x)) [
  | inl l ↦ inl (omega (arith, ints))
  | inr g ↦ inr (λ h. omega (arith, ints))
]

test_within : (x y : ℤ) → Test (IsWithin x y)
test_within x y = elim (cases_lt (up y) (up x)) [
  | inl l ↦ inr (λ h. omega (arith, within_parts x y h))
  | inr g ↦ elim (cases_lt (down y) (down x)) [
    | inl l ↦ inr (λ h. omega (arith, within_parts x y h))
    | inr f ↦ inl (within_from_parts x y (g, f))
  ]
]

test_sum : (S : LinearSystem) (f g : List ℤ) → Test (HasSum S f g)
test_sum S f g = elim (test_zip (λ x y. pos 0 ≤ℤ (x *ℤ y)) (λ x y. test_at_most (pos 0) (x *ℤ y)) (front f) (front g)) [
  | inr out ↦ inr (λ h. out h.conformal)
  | inl c ↦ elim (test_caps S (front (add f g))) [
    | inr out ↦ inr (λ h. out h.caps)
    | inl d ↦ inl (record { conformal = c; caps = d })
  ]
]

test_not : (P : Type 0) → Test P → Test (P → ⊥)
test_not P (inl p) = inr (λ h. h p)
test_not P (inr out) = inl out

test_irreducible : (listed : List (List ℤ)) (z : List ℤ) → Test (IsIrreducible listed z)
test_irreducible listed z = elim (test_each (λ u. u ⊑ z → ⊥) (λ u. test_not (u ⊑ z) (test_zip IsWithin test_within u z)) listed) [
  | inl h ↦ inl (λ u c. each_contained (λ u. u ⊑ z → ⊥) listed u h c)
  | inr out ↦ inr (λ h. out (each_from_contained (λ u. u ⊑ z → ⊥) listed h))
]

-- f and g, with f and g listed, are a pair of norm e with an irreducible sum
record Sums (S : LinearSystem) (listed : List (List ℤ)) (e : ℕ) (f g : List ℤ) : Type 0 where
  above : pos 0 <ℤ last f
  under : last g <ℤ pos 0
  norms : stage_norm f + stage_norm g ≡ e
  sum : HasSum S f g
  irreducible : IsIrreducible listed (add f g)

test_sums : (S : LinearSystem) (listed : List (List ℤ)) (e : ℕ) (f g : List ℤ) → Test (Sums S listed e f g)
test_sums S listed e f g = elim (test_less (pos 0) (last f)) [
  | inr out ↦ inr (λ h. out h.above)
  | inl a ↦ elim (test_less (last g) (pos 0)) [
    | inr out ↦ inr (λ h. out h.under)
    | inl b ↦ elim (cases_eq (stage_norm f + stage_norm g) e) [
      | inr out ↦ inr (λ h. out h.norms)
      | inl c ↦ elim (test_sum S f g) [
        | inr out ↦ inr (λ h. out h.sum)
        | inl s ↦ elim (test_irreducible listed (add f g)) [
          | inr out ↦ inr (λ h. out h.irreducible)
          | inl i ↦ inl (record { above = a; under = b; norms = c; sum = s; irreducible = i })
        ]
      ]
    ]
  ]
]

module _ (S : LinearSystem) (listed waiting : List (List ℤ)) (e : ℕ) where
  SumWith : List ℤ → List ℤ → Type 0
  SumWith f z = (g : List ℤ) × Contains listed g × Sums S listed e f g × (z ≡ add f g)

  finite_sums : IsFinite (IsNewSum S listed e)
  unfolding SumWith
  finite_sums = finite_same (λ z. (f : List ℤ) × Contains listed f × SumWith f z) (IsNewSum S listed e)
      (λ z. (
        λ m. let s : Sums S listed e m.0 m.2.0 = m.2.2 in record {
          first = m.0;
          second = m.2.0;
          pair = record { first_listed = m.1; second_listed = m.2.1; above = s.above; under = s.under };
          norms = s.norms;
          sum = s.sum;
          is = m.2.3;
          irreducible = subst (IsIrreducible listed) (sym m.2.3) s.irreducible;
        },
        λ n. (n.first, n.pair.first_listed, (n.second, n.pair.second_listed, record { above = n.pair.above; under = n.pair.under; norms = n.norms; sum = n.sum; irreducible = subst (IsIrreducible listed) n.is n.irreducible }, n.is)),
      ))
      (finite_union SumWith (λ f. finite_image (Sums S listed e f) (test_sums S listed e f) (add f) listed) listed)

  finite_waiting : IsFinite (IsWaitingAt waiting e)
  finite_waiting = finite_same (λ z. (x : List ℤ) × Contains waiting x × (stage_norm x ≡ e) × (z ≡ x)) (IsWaitingAt waiting e)
      (λ z. (
        λ m. record { waits = subst (Contains waiting) (sym m.3) m.1; norm_is = ap stage_norm m.3 ∙ m.2 },
        λ w. (z, w.waits, w.norm_is, refl),
      ))
      (finite_image (λ x. stage_norm x ≡ e) (λ x. cases_eq (stage_norm x) e) (λ x. x) waiting)

  pub grown_exists : (grown : List (List ℤ)) × IsGrown S listed waiting e grown
  grown_exists = finite_ascending norm_cmp norm_cmp_total norm_same (λ z. Contains listed z ⊎ (IsWaitingAt waiting e z ⊎ IsNewSum S listed e z))
      (finite_either (Contains listed) (λ z. IsWaitingAt waiting e z ⊎ IsNewSum S listed e z) (finite_list listed)
      (finite_either (IsWaitingAt waiting e) (IsNewSum S listed e) finite_waiting finite_sums))
