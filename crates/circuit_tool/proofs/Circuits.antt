-- Of a Graver basis, the rows of least support are exactly the circuits.
-- A row of least support is a circuit: below a nonzero vector of the kernel is a minimal one, which or whose negative is a row, and a common divisor d
-- would leave a smaller vector below the row. A circuit u is a sum of minimal vectors below it. Each has u's support, as no nonzero vector's is strictly
-- inside. Any two, g and h, are the same: with a column j in which u is not 0, g_j h - h_j g is in the kernel, has its support within u's and misses j, so
-- it is zero; then g and h are proportional, and the one that is no larger at j is below the other. So u is a multiple of one vector, and coprime.
use Rattle.std.proofs.Common.{◌≡◌, ℕ, zero, suc, ◌*◌, ◌<◌, ◌≤◌, List, [], ◌∷◌, length, get_or, replicate, refl, ap, sym, ◌∙◌, subst, arith, inl, inr, Bool, true, false}
use Rattle.std.specs.Prelude.{ℤ, pos, ◌-ℤ◌, ◌*ℤ◌, nat_abs, IsTrue}
use Rattle.std.specs.List.{AllByRecursion}
use Rattle.std.proofs.lemmas.Int.{ints}
use Rattle.std.proofs.lemmas.Bool.{cases_lt}
use Rattle.std.proofs.Math.Nat.{mul-le-mul_right}
use Rattle.int_vector.specs.Vectors.{norm, dot, ◌⊑◌, IsZero, leads_negative, negated}
use Rattle.int_vector.proofs.Vectors.{norm_positive, nonzero_from_norm, length-below}
use Rattle.int_vector.proofs.Numbers.{zero_parts}
use Rattle.mat_files.specs.Cells.{Matrix}
use Rattle.lift_core.specs.Systems.{IsMinimal}
use Rattle.lift_core.specs.Inside.Decompositions.{IsDecomposition}
use Rattle.lift_core.proofs.Minimal.{minimal_below, decompose, zero_or_not}
use Rattle.system_files.specs.Kernel.{rows_in, IsKernelVector}
use Rattle.system_files.specs.Basis.{IsGraverBasis}
use Rattle.system_files.proofs.Negatives.{negated_zero}
use Rattle.system_files.proofs.Kernels.{kernel_closed, kernel_difference}
use Rattle.system_files.proofs.Bases.{IsHalf, basis_is_half, half_has}
use Rattle.circuit_tool.specs.Circuits.{IsWithinSupport, IsStrictlyWithin, scaled, IsCircuit, IsLeastRow, AreLeastRows, AreCircuits}
use Rattle.circuit_tool.proofs.Within.{support_below, support_trans, support_negated, test_support, support_misses, nonzero_entry}
use Rattle.circuit_tool.proofs.Scaling.{length-scaled, norm-scaled, kernel_scaled, kernel_from_scaled, below_scaled, combined, combined_support, combined_at, length-combined, proportional, ratio_below, ratio_above, scaled_once, zero_scaled}
use Rattle.circuit_tool.proofs.Coprime.{total_of_one}

-- ---- a row of least support is a circuit
strict_trans : (g w u : List ℤ) → IsWithinSupport g w → IsStrictlyWithin w u → IsStrictlyWithin g u
strict_trans g w u h s = record { within = support_trans g w u h s.within; less = λ k. s.less (support_trans u g w k h) }

same_size : (d m : ℕ) → 1 < d → m ≡ d * m → 0 < m → ⊥
same_size d m h e n = omega (arith, mul-le-mul_right m h)

module _ (n : ℕ) (rows set : List (List ℤ)) (half : IsHalf n rows set) where
  least_in_kernel : (u w : List ℤ) → IsLeastRow set u → IsKernelVector n rows w → ¬ IsZero w → IsStrictlyWithin w u → ⊥
  least_in_kernel u w r p nonzero s =
      let m : (g : List ℤ) × IsMinimal (IsKernelVector n rows) g × (g ⊑ w) = minimal_below (IsKernelVector n rows) (kernel_closed n rows) w p (norm_positive w nonzero) in
      let inside : IsStrictlyWithin m.0 u = strict_trans m.0 w u (support_below m.0 w m.2) s in
      elim (half_has n rows set half m.0 m.1) [
        | inl c ↦ r.least m.0 c m.1.nonzero inside
        | inr c ↦ r.least (negated m.0) c (λ z. m.1.nonzero (negated_zero m.0 z)) (strict_trans (negated m.0) m.0 u (support_negated m.0) inside)
      ]

  coprime_row : (u : List ℤ) → IsLeastRow set u → (d : ℕ) (w : List ℤ) → u ≡ scaled (pos d) w → d ≤ 1
  coprime_row u r d w e =
      let m = half.minimal u r.there in
      elim (cases_lt 1 d) [
        | inr l ↦ l
        | inl h ↦
            let vector : IsKernelVector n rows w = record {
              columns = sym (length-scaled (pos d) w) ∙ ap length (sym e) ∙ m.member.columns;
              kernel = kernel_from_scaled rows (pos d) w (omega arith) (subst (λ (x : List ℤ). AllByRecursion (λ r. dot r x ≡ pos 0) rows) e m.member.kernel);
            } in
            let nonzero : IsZero w → ⊥ = λ z. r.nonzero (subst IsZero (sym e) (zero_scaled (pos d) w z)) in
            let below : w ⊑ u = subst (λ (x : List ℤ). w ⊑ x) (sym e) (below_scaled d w (omega arith)) in
            let is : w ≡ u = m.least w vector nonzero below in
            absurd (same_size d (norm w) h (ap norm is ∙ ap norm e ∙ norm-scaled (pos d) w) (norm_positive w nonzero))
      ]

  row_is_circuit : (u : List ℤ) → IsLeastRow set u → IsCircuit n rows u
  row_is_circuit u r = record {
    vector = (half.minimal u r.there).member;
    nonzero = r.nonzero;
    least = λ w p nonzero s. least_in_kernel u w r p nonzero s;
    coprime = coprime_row u r;
  }

-- ---- the minimal vectors below a circuit
positive_entry : (x : ℤ) → (x ≡ pos 0 → ⊥) → 0 < nat_abs x
positive_entry x h = elim (cases_lt 0 (nat_abs x)) [ inl l ↦ l | inr g ↦ absurd (h (zero_parts x (omega (arith, g)))) ]

cancelled : (a b : ℤ) → (a *ℤ b) -ℤ (b *ℤ a) ≡ pos 0
cancelled a b = grind (arith, ints)

module _ (n : ℕ) (rows : List (List ℤ)) (u : List ℤ) (c : IsCircuit n rows u) where
  -- a minimal vector below the circuit has its support
  whole_support : (g : List ℤ) → IsMinimal (IsKernelVector n rows) g → g ⊑ u → IsWithinSupport u g
  whole_support g m b =
      elim (test_support u g) [
        | inl h ↦ h
        | inr out ↦ absurd (c.least g m.member m.nonzero (record { within = support_below g u b; less = out }))
      ]

  module _ (g h : List ℤ) (m : IsMinimal (IsKernelVector n rows) g) (k : IsMinimal (IsKernelVector n rows) h) (p : g ⊑ u) (q : h ⊑ u) where
    same_length : length g ≡ length h
    same_length = length-below g u p ∙ sym (length-below h u q)

    combination_is_zero : (j : ℕ) → j < length u → (get_or u j (pos 0) ≡ pos 0 → ⊥) → IsZero (combined (get_or g j (pos 0)) (get_or h j (pos 0)) g h)
    combination_is_zero j l there =
        let a = get_or g j (pos 0) in
        let b = get_or h j (pos 0) in
        let z = combined a b g h in
        let long : length (scaled b g) ≡ length (scaled a h) = length-scaled b g ∙ same_length ∙ sym (length-scaled a h) in
        elim (zero_or_not z) [
          | inl zero_now ↦ zero_now
          | inr some ↦ absurd (c.least z
              (record {
                columns = length-combined a b g h same_length ∙ m.member.columns;
                kernel = kernel_difference rows (scaled b g) (scaled a h) long (kernel_scaled rows b g m.member.kernel) (kernel_scaled rows a h k.member.kernel);
              })
              (nonzero_from_norm z some)
              (record {
                within = combined_support a b g h u (support_below g u p) (support_below h u q);
                less = λ s. there (support_misses z u j l s (combined_at a b g h j same_length (omega (arith, length-below g u p)) ∙ cancelled a b));
              }))
        ]

    same_term : g ≡ h
    same_term =
        let f = nonzero_entry u c.nonzero in
        let j = f.0 in
        let a = get_or g j (pos 0) in
        let b = get_or h j (pos 0) in
        let ratio = proportional a b g h same_length (combination_is_zero j f.1 f.2) in
        let a_there : 0 < nat_abs a = positive_entry a (λ e. f.2 (support_misses g u j f.1 (whole_support g m p) e)) in
        let b_there : 0 < nat_abs b = positive_entry b (λ e. f.2 (support_misses h u j f.1 (whole_support h k q) e)) in
        elim (cases_lt (nat_abs b) (nat_abs a)) [
          | inr l ↦ k.least g m.member m.nonzero (ratio_below a b g h u ratio l b_there p q)
          | inl l ↦ sym (m.least h k.member k.nonzero (ratio_above a b g h u ratio (omega (arith, l)) a_there p q))
        ]

  same_terms : (g : List ℤ) (terms : List (List ℤ)) → IsMinimal (IsKernelVector n rows) g → g ⊑ u →
      AllByRecursion (IsMinimal (IsKernelVector n rows)) terms → AllByRecursion (λ v. v ⊑ u) terms → AllByRecursion (λ v. v ≡ g) terms
  same_terms g [] m p minimal below = tt
  same_terms g (h ∷ terms) m p minimal below = (same_term h g minimal.0 m below.0 p, same_terms g terms m p minimal.1 below.1)

  zeros_are_zero : (k : ℕ) → IsZero (replicate k (pos 0))
  zeros_are_zero zero = tt
  zeros_are_zero (suc k) = (refl, zeros_are_zero k)

  -- one term alone
  one_minimal : (terms : List (List ℤ)) → IsDecomposition (IsKernelVector n rows) u terms → IsMinimal (IsKernelVector n rows) u
  one_minimal [] d = absurd (c.nonzero (subst IsZero d.sum (zeros_are_zero (length u))))
  one_minimal (g ∷ terms) d =
      let all = same_terms g terms d.minimal.0 d.below.0 d.minimal.1 d.below.1 in
      let sum : u ≡ scaled (pos (suc (length terms))) g =
      sym d.sum ∙ total_of_one (length u) g (g ∷ terms) (length-below g u d.below.0) (refl, all) in
      let one : suc (length terms) ≡ 1 = omega (arith, c.coprime (suc (length terms)) g sum) in
      let is : g ≡ u = sym (sum ∙ ap (λ k. scaled (pos k) g) one ∙ scaled_once g) in
      subst (IsMinimal (IsKernelVector n rows)) is d.minimal.0

  pub circuit_is_minimal : IsMinimal (IsKernelVector n rows) u
  circuit_is_minimal = let d = decompose (IsKernelVector n rows) (kernel_closed n rows) u c.vector in one_minimal d.0 d.1

-- ---- both ways
leads_not : (b : Bool) → (IsTrue b → ⊥) → b ≡ false
leads_not true h = absurd (h refl)
leads_not false h = refl

not_leading : (b : Bool) → b ≡ false → IsTrue b → ⊥
not_leading b e h = cc

pub circuit_is_row : (n : ℕ) (rows set : List (List ℤ)) → IsHalf n rows set → (u : List ℤ) → IsCircuit n rows u → (IsTrue (leads_negative u) → ⊥) → IsLeastRow set u
circuit_is_row n rows set half u c positive = record {
  there = half.there u (circuit_is_minimal n rows u c) (leads_not (leads_negative u) positive);
  nonzero = c.nonzero;
  least = λ w h nonzero s. c.least w (half.minimal w h).member nonzero s;
}

pub least_rows_are_circuits : (mat : Matrix) (set rows : List (List ℤ)) → IsGraverBasis mat set → AreLeastRows set rows → AreCircuits mat.cols (rows_in mat) rows
least_rows_are_circuits mat set rows basis least =
    let half = basis_is_half mat set basis in record {
      ascending = least.ascending;
      members = λ u. (
        λ h.
            let r = (least.members u).0 h in
            (row_is_circuit mat.cols (rows_in mat) set half u r, not_leading (leads_negative u) (half.positive u r.there)),
        λ h. (least.members u).1 (circuit_is_row mat.cols (rows_in mat) set half u h.0 h.1),
      );
    }
