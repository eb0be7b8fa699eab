-- Where no vector of the Graver basis helps, the point is optimal.
-- Let y be feasible. The difference y - x is in the kernel, so it is a sum of minimal vectors of the kernel below it. Were y cheaper, one of them would have
-- a negative cost; as it is below y - x, x plus it is between x and y in each entry, and so within the bounds. It or its negative is a row: it helps.
use Rattle.std.proofs.Common.{◌≡◌, ℕ, zero, suc, ◌*◌, ◌≤◌, List, [], ◌∷◌, length, replicate, refl, ap, ap₂, sym, ◌∙◌, subst, arith, inl, inr, ◌⊎◌}
use Rattle.std.specs.Prelude.{ℤ, pos, ◌+ℤ◌, ◌-ℤ◌, ◌*ℤ◌, ◌≤ℤ◌, ◌<ℤ◌}
use Rattle.std.specs.List.{AllByRecursion, Contains}
use Rattle.std.proofs.lemmas.Int.{ints}
use Rattle.std.proofs.lemmas.List.Elements.{length_all_zip}
use borrow.Author.Differences.{up, down, same_in, product_is}
use Rattle.int_vector.specs.Vectors.{dot, IsWithin, ◌⊑◌, negated}
use Rattle.int_vector.specs.Operations.{add, subtract, total}
use Rattle.int_vector.proofs.Vectors.{dot-add, dot-subtract, length-below}
use Rattle.int_vector.proofs.Numbers.{mul-add, within_parts}
use Rattle.mat_files.specs.Cells.{Matrix}
use Rattle.lift_core.specs.Systems.{IsMinimal}
use Rattle.lift_core.specs.Inside.Decompositions.{IsDecomposition}
use Rattle.lift_core.proofs.Minimal.{decompose}
use Rattle.lift_core.proofs.Lists.{contains_cases, contains_head, contains_tail, contains_nothing, each_contained}
use Rattle.lift_core.proofs.Systems.{test_at_most}
use Rattle.system_files.specs.Kernel.{rows_in, IsInKernel, IsKernelVector}
use Rattle.system_files.specs.Basis.{IsGraverBasis}
use Rattle.system_files.proofs.Negatives.{negated_twice}
use Rattle.system_files.proofs.Kernels.{kernel_closed}
use Rattle.system_files.proofs.Bases.{IsHalf, basis_is_half, half_has}
use Rattle.climb_tool.proofs.Entries.{length-times}
use Rattle.climb_tool.specs.Paths.{IsWithinBounds, times, Helps, candidates, NoneHelps, Step, IsStep, after_step, IsOptimal}

-- ---- the candidates
candidate : (set : List (List ℤ)) (g : List ℤ) → Contains set g → Contains (candidates set) g
candidate [] g c = absurd (contains_nothing g c)
candidate (h ∷ set) g c =
    elim (contains_cases h set g c) [
      | inl e ↦ subst (Contains (candidates (h ∷ set))) e (contains_head h (negated h ∷ candidates set))
      | inr d ↦ contains_tail h (negated h ∷ candidates set) g (contains_tail (negated h) (candidates set) g (candidate set g d))
    ]

negative_candidate : (set : List (List ℤ)) (g : List ℤ) → Contains set (negated g) → Contains (candidates set) g
negative_candidate [] g c = absurd (contains_nothing (negated g) c)
negative_candidate (h ∷ set) g c =
    elim (contains_cases h set (negated g) c) [
      | inl e ↦ subst (Contains (candidates (h ∷ set))) (ap negated e ∙ negated_twice g) (contains_tail h (negated h ∷ candidates set) (negated h)
          (contains_head (negated h) (candidates set)))
      | inr d ↦ contains_tail h (negated h ∷ candidates set) g (contains_tail (negated h) (candidates set) g (negative_candidate set g d))
    ]

-- ---- differences of feasible points
kernel_between : (rows : List (List ℤ)) (x y : List ℤ) → length x ≡ length y → AllByRecursion (λ r. dot r y ≡ dot r x) rows → IsInKernel rows (subtract y x)
kernel_between [] x y h e = tt
kernel_between (r ∷ rows) x y h e = (dot-subtract r x y h ∙ no_difference (dot r y) (dot r x) e.0, kernel_between rows x y h e.1) where
  no_difference : (p q : ℤ) → p ≡ q → p -ℤ q ≡ pos 0
  no_difference p q e = grind (arith, ints)

length-difference : (x y : List ℤ) → length x ≡ length y → length (subtract y x) ≡ length y
length-difference [] [] h = refl
length-difference (a ∷ x) (b ∷ y) h = ap suc (length-difference x y (omega arith))
length-difference [] (b ∷ y) h = absurd (omega arith)
length-difference (a ∷ x) [] h = absurd (omega arith)

entry_between : (u a b g : ℤ) → (pos 0 ≤ℤ a) × (a ≤ℤ u) → (pos 0 ≤ℤ b) × (b ≤ℤ u) → IsWithin g (b -ℤ a) → (pos 0 ≤ℤ (a +ℤ g)) × ((a +ℤ g) ≤ℤ u)
entry_between u a b g p q h = grind (arith, ints, within_parts g (b -ℤ a) h)

within_between : (upper x y g : List ℤ) → IsWithinBounds upper x → IsWithinBounds upper y → g ⊑ subtract y x → IsWithinBounds upper (add x g)
within_between [] [] [] g p q h = tt
within_between (u ∷ upper) (a ∷ x) (b ∷ y) (c ∷ g) p q h = (entry_between u a b c p.0 q.0 h.0, within_between upper x y g p.1 q.1 h.1)
within_between (u ∷ upper) (a ∷ x) (b ∷ y) [] p q h = absurd h
within_between [] (a ∷ x) y g p q h = absurd p
within_between [] [] (b ∷ y) g p q h = absurd q
within_between (u ∷ upper) [] y g p q h = absurd p
within_between (u ∷ upper) (a ∷ x) [] g p q h = absurd q

-- ---- a sum of negative cost has a term of negative cost
dot-zeros : (cost : List ℤ) (n : ℕ) → dot cost (replicate n (pos 0)) ≡ pos 0
dot-zeros [] n = refl
dot-zeros (c ∷ cost) zero = refl
dot-zeros (c ∷ cost) (suc n) = ap (λ d. (c *ℤ pos 0) +ℤ d) (dot-zeros cost n) ∙ nothing c where
  nothing : (c : ℤ) → (c *ℤ pos 0) +ℤ pos 0 ≡ pos 0
  nothing c = grind (arith, ints)

length-total : (n : ℕ) (terms : List (List ℤ)) → AllByRecursion (λ g. length g ≡ n) terms → length (total n terms) ≡ n
length-total n [] h = zeros n where
  zeros : (k : ℕ) → length (replicate k (pos 0)) ≡ k
  zeros zero = refl
  zeros (suc k) = ap suc (zeros k)
length-total n (g ∷ terms) h = sums g (total n terms) (h.0 ∙ sym (length-total n terms h.1)) ∙ h.0 where
  sums : (u v : List ℤ) → length u ≡ length v → length (add u v) ≡ length u
  sums [] v e = refl
  sums (a ∷ u) (b ∷ v) e = ap suc (sums u v (omega arith))
  sums (a ∷ u) [] e = absurd (omega arith)

other_part : (p q : ℤ) → pos 0 ≤ℤ p → (p +ℤ q) <ℤ pos 0 → q <ℤ pos 0
other_part p q h l = grind (arith, ints)

negative_or_not : (p : ℤ) → (p <ℤ pos 0) ⊎ (pos 0 ≤ℤ p)
negative_or_not p = grind (arith, ints)

not_negative : (p : ℤ) → p ≡ pos 0 → p <ℤ pos 0 → ⊥
not_negative p e l = grind (arith, ints)

cheap_term : (cost : List ℤ) (n : ℕ) (terms : List (List ℤ)) → AllByRecursion (λ g. length g ≡ n) terms → dot cost (total n terms) <ℤ pos 0 →
    (g : List ℤ) × Contains terms g × (dot cost g <ℤ pos 0)
cheap_term cost n [] long h = absurd (not_negative (dot cost (replicate n (pos 0))) (dot-zeros cost n) h)
cheap_term cost n (g ∷ terms) long h =
    elim (negative_or_not (dot cost g)) [
      | inl l ↦ (g, contains_head g terms, l)
      | inr p ↦
          let sum : dot cost (add g (total n terms)) ≡ dot cost g +ℤ dot cost (total n terms) =
          dot-add cost g (total n terms) (long.0 ∙ sym (length-total n terms long.1)) in
          let r : (u : List ℤ) × Contains terms u × (dot cost u <ℤ pos 0) =
          cheap_term cost n terms long.1 (other_part (dot cost g) (dot cost (total n terms)) p (subst (λ (d : ℤ). d <ℤ pos 0) sum h)) in
          (r.0, contains_tail g terms r.0 r.1, r.2)
    ]

each_long : (n : ℕ) (v : List ℤ) (terms : List (List ℤ)) → length v ≡ n → AllByRecursion (λ g. g ⊑ v) terms → AllByRecursion (λ g. length g ≡ n) terms
each_long n v [] l h = tt
each_long n v (g ∷ terms) l h = (length-below g v h.0 ∙ l, each_long n v terms l h.1)

cheaper_difference : (p q : ℤ) → (p ≤ℤ q → ⊥) → (q -ℤ p) <ℤ pos 0
cheaper_difference p q h = grind (arith, ints)

module _ (n : ℕ) (rows set : List (List ℤ)) (half : IsHalf n rows set) (upper cost x : List ℤ) (bounds : length upper ≡ n)
    (feasible : IsWithinBounds upper x) (stuck : NoneHelps upper cost x (candidates set)) where
  not_cheaper : (y : List ℤ) → IsWithinBounds upper y → AllByRecursion (λ r. dot r y ≡ dot r x) rows → (dot cost x ≤ℤ dot cost y → ⊥) → ⊥
  not_cheaper y within same cheaper =
      let long_x : length x ≡ n = sym (length_all_zip (λ u a. (pos 0 ≤ℤ a) × (a ≤ℤ u)) upper x feasible) ∙ bounds in
      let long_y : length y ≡ n = sym (length_all_zip (λ u a. (pos 0 ≤ℤ a) × (a ≤ℤ u)) upper y within) ∙ bounds in
      let even : length x ≡ length y = long_x ∙ sym long_y in
      let v : List ℤ = subtract y x in
      let long_v : length v ≡ n = length-difference x y even ∙ long_y in
      let d : (terms : List (List ℤ)) × IsDecomposition (IsKernelVector n rows) v terms =
      decompose (IsKernelVector n rows) (kernel_closed n rows) v (record { columns = long_v; kernel = kernel_between rows x y even same }) in
      let cost_of_v : dot cost v <ℤ pos 0 =
      subst (λ (p : ℤ). p <ℤ pos 0) (sym (dot-subtract cost x y even)) (cheaper_difference (dot cost x) (dot cost y) cheaper) in
      let cost_of_sum : dot cost (total n d.0) <ℤ pos 0 =
      subst (λ (w : List ℤ). dot cost w <ℤ pos 0) (sym (subst (λ (k : ℕ). total k d.0 ≡ v) long_v d.1.sum)) cost_of_v in
      let t : (g : List ℤ) × Contains d.0 g × (dot cost g <ℤ pos 0) = cheap_term cost n d.0 (each_long n v d.0 long_v d.1.below) cost_of_sum in
      let below : t.0 ⊑ v = each_contained (λ g. g ⊑ v) d.0 t.0 d.1.below t.1 in
      let minimal : IsMinimal (IsKernelVector n rows) t.0 = each_contained (IsMinimal (IsKernelVector n rows)) d.0 t.0 d.1.minimal t.1 in
      let helps : Helps upper cost x t.0 = record { within = within_between upper x y t.0 feasible within below; cheaper = t.2 } in
      elim (half_has n rows set half t.0 minimal) [
        | inl c ↦ each_contained (λ g. Helps upper cost x g → ⊥) (candidates set) t.0 stuck (candidate set t.0 c) helps
        | inr c ↦ each_contained (λ g. Helps upper cost x g → ⊥) (candidates set) t.0 stuck (negative_candidate set t.0 c) helps
      ]

  optimal : IsOptimal rows upper cost x
  optimal y within same =
      elim (test_at_most (dot cost x) (dot cost y)) [
        | inl h ↦ h
        | inr out ↦ absurd (not_cheaper y within same out)
      ]

pub stuck_is_optimal : (mat : Matrix) (set : List (List ℤ)) (upper cost x : List ℤ) → IsGraverBasis mat set → length upper ≡ mat.cols →
    IsWithinBounds upper x → NoneHelps upper cost x (candidates set) → IsOptimal (rows_in mat) upper cost x
stuck_is_optimal mat set upper cost x basis bounds feasible stuck =
    optimal mat.cols (rows_in mat) set (basis_is_half mat set basis) upper cost x bounds feasible stuck

-- ---- each step lowers the cost
swap_product : (c : ℕ) (a x : ℤ) → a *ℤ (pos c *ℤ x) ≡ pos c *ℤ (a *ℤ x)
swap_product c a x =
    same_in (a *ℤ (pos c *ℤ x)) (pos c *ℤ (a *ℤ x))
    (omega (
      arith,
      ints,
      ap (λ n. up a * n) (product_is (pos c) x).0,
      ap (λ n. up a * n) (product_is (pos c) x).1,
      ap (λ n. down a * n) (product_is (pos c) x).0,
      ap (λ n. down a * n) (product_is (pos c) x).1,
      ap (λ n. c * n) (product_is a x).0,
      ap (λ n. c * n) (product_is a x).1,
    ))

pub dot-times : (c : ℕ) (row g : List ℤ) → dot row (times c g) ≡ pos c *ℤ dot row g
dot-times c [] g = grind (arith, ints)
dot-times c (r ∷ row) [] = grind (arith, ints)
dot-times c (r ∷ row) (x ∷ g) = ap₂ (λ p q. p +ℤ q) (swap_product c r x) (dot-times c row g) ∙ sym (mul-add (pos c) (r *ℤ x) (dot row g))

falling : (c : ℕ) (p q : ℤ) → 1 ≤ c → q <ℤ pos 0 → (p +ℤ (pos c *ℤ q)) <ℤ p
falling c p q h l = grind (arith, ints)

times_once : (g : List ℤ) → times 1 g ≡ g
times_once [] = refl
times_once (x ∷ g) = ap₂ (λ a v. a ∷ v) (once x) (times_once g) where
  once : (x : ℤ) → pos 1 *ℤ x ≡ x
  once x = grind (arith, ints)

pub cost_falls : (upper cost x : List ℤ) (set : List (List ℤ)) (s : Step) → length s.by ≡ length x → IsStep upper cost set x s →
    dot cost (after_step x s) <ℤ dot cost x
cost_falls upper cost x set s long step =
    let one : 1 ≤ s.count = step.greatest.most 1 (subst (λ (g : List ℤ). IsWithinBounds upper (add x g)) (sym (times_once s.by)) step.first.helps.within) in
    let sum : dot cost (after_step x s) ≡ dot cost x +ℤ (pos s.count *ℤ dot cost s.by) =
    dot-add cost x (times s.count s.by) (sym long ∙ sym (length-times s.count s.by)) ∙ ap (λ p. dot cost x +ℤ p) (dot-times s.count cost s.by) in
    subst (λ (p : ℤ). p <ℤ dot cost x) (sym sum) (falling s.count (dot cost x) (dot cost s.by) one step.first.helps.cheaper)
