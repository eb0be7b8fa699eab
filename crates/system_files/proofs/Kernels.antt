-- The vectors of a kernel: they can be tested, and hold differences, sums and negatives.
use Rattle.std.proofs.Common.{◌≡◌, ℕ, List, [], ◌∷◌, length, ap, ap₂, sym, ◌∙◌, inl, inr, ◌⊎◌}
use Rattle.std.specs.Prelude.{ℤ, pos, ◌+ℤ◌, ◌-ℤ◌, neg_ℤ}
use Rattle.std.proofs.lemmas.Bool.{cases_eq}
use Rattle.int_vector.specs.Vectors.{◌⊑◌, dot, negated}
use Rattle.int_vector.specs.Operations.{add, subtract}
use Rattle.int_vector.proofs.Vectors.{dot-add, dot-subtract, length-below, difference_below}
use Rattle.lift_core.specs.Systems.{IsMinimal}
use Rattle.lift_core.proofs.Minimal.{IsClosed}
use Rattle.lift_core.proofs.Systems.{test_each, test_same}
use Rattle.system_files.specs.Kernel.{IsInKernel, IsKernelVector}
use Rattle.system_files.proofs.Negatives.{negated_twice, length-negated, negated_below, negated_zero, dot-negated}

pub kernel_difference : (rows : List (List ℤ)) (u v : List ℤ) → length u ≡ length v → IsInKernel rows u → IsInKernel rows v → IsInKernel rows (subtract v u)
kernel_difference [] u v h p q = tt
kernel_difference (r ∷ rows) u v h p q = (dot-subtract r u v h ∙ ap₂ (λ a b. a -ℤ b) q.0 p.0, kernel_difference rows u v h p.1 q.1)

pub kernel_sum : (rows : List (List ℤ)) (u v : List ℤ) → length u ≡ length v → IsInKernel rows u → IsInKernel rows v → IsInKernel rows (add u v)
kernel_sum [] u v h p q = tt
kernel_sum (r ∷ rows) u v h p q = (dot-add r u v h ∙ ap₂ (λ a b. a +ℤ b) p.0 q.0, kernel_sum rows u v h p.1 q.1)

pub kernel_negated : (rows : List (List ℤ)) (v : List ℤ) → IsInKernel rows v → IsInKernel rows (negated v)
kernel_negated [] v p = tt
kernel_negated (r ∷ rows) v p = (dot-negated r v ∙ ap neg_ℤ p.0, kernel_negated rows v p.1)

test_kernel : (n : ℕ) (rows : List (List ℤ)) (v : List ℤ) → IsKernelVector n rows v ⊎ (IsKernelVector n rows v → ⊥)
test_kernel n rows v =
    elim (cases_eq (length v) n) [
      | inr out ↦ inr (λ h. out h.columns)
      | inl l ↦ elim (test_each (λ r. dot r v ≡ pos 0) (λ r. test_same (dot r v) (pos 0)) rows) [
        | inr out ↦ inr (λ h. out h.kernel)
        | inl k ↦ inl (record { columns = l; kernel = k })
      ]
    ]

pub kernel_closed : (n : ℕ) (rows : List (List ℤ)) → IsClosed (IsKernelVector n rows)
kernel_closed n rows = record {
  test = test_kernel n rows;
  difference = λ u v p q h. record {
    columns = length-below (subtract v u) v (difference_below u v h) ∙ q.columns;
    kernel = kernel_difference rows u v (length-below u v h) p.kernel q.kernel;
  };
}

pub vector_negated : (n : ℕ) (rows : List (List ℤ)) (v : List ℤ) → IsKernelVector n rows v → IsKernelVector n rows (negated v)
vector_negated n rows v h = record { columns = length-negated v ∙ h.columns; kernel = kernel_negated rows v h.kernel }

-- the negative of a minimal vector is minimal
pub minimal_negated : (n : ℕ) (rows : List (List ℤ)) (v : List ℤ) → IsMinimal (IsKernelVector n rows) v → IsMinimal (IsKernelVector n rows) (negated v)
minimal_negated n rows v m = record {
  member = vector_negated n rows v m.member;
  nonzero = λ z. m.nonzero (negated_zero v z);
  least = λ w p nonzero b.
      let back : negated w ⊑ v = rw (← negated_twice v) (negated_below w (negated v) b) in
      let is : negated w ≡ v = m.least (negated w) (vector_negated n rows w p) (λ z. nonzero (negated_zero w z)) back in
      sym (negated_twice w) ∙ ap negated is;
}
