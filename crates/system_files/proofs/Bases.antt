-- The Graver basis of a matrix holds, up to sign, exactly the minimal vectors of its kernel: with no right sides, no inequalities and free columns,
-- the user's solutions are the vectors of the kernel, and their full vectors are themselves.
use Rattle.std.proofs.Common.{◌≡◌, ℕ, zero, suc, List, [], ◌∷◌, ◌++◌, length, replicate, refl, ap, sym, ◌∙◌, subst, inl, inr, ◌⊎◌, arith, Bool, true, false, not}
use Rattle.std.specs.Prelude.{ℤ, pos, ◌*ℤ◌, None, IsTrue}
use Rattle.std.specs.List.{AllZip, AllByRecursion, Contains}
use Rattle.std.proofs.lemmas.List.Elements.{length_all_zip}
use Rattle.int_vector.specs.Vectors.{◌⊑◌, dot, IsZero, negated, leads_negative}
use Rattle.mat_files.specs.Cells.{Matrix}
use Rattle.mat_files.specs.declared.relations.Rel.TheVariants.{Equal}
use Rattle.lift_core.specs.Columns.{HasSign, IsCapped, Every}
use Rattle.lift_core.specs.Systems.{IsMinimal}
use Rattle.lift_core.proofs.Written.{one_leads_negative}
use Rattle.lift_core.proofs.Cells.{length-cut_rows}
use Rattle.system_shape.specs.Problem.{UserSystem, Stands, differences, full_vector, IsUserSolution, IsMinimalOfKind}
use Rattle.system_shape.specs.Shape.{user_rows}
use Rattle.system_files.specs.Kernel.{rows_in, IsInKernel, IsKernelVector}
use Rattle.system_files.specs.Basis.{IsGraverBasis}
use Rattle.system_files.proofs.Kernels.{minimal_negated}

-- the user's system of n free columns and these equations
abbrev pub free_system : ℕ → ℕ → List (List ℤ) → UserSystem
free_system n m rows = record { signs = replicate n (pos 2); caps = replicate n None; rows = user_rows rows (replicate m Equal) (replicate m (pos 0)); has_x0 = false }

free_signs : (n : ℕ) (v : List ℤ) → length v ≡ n → AllZip HasSign (replicate n (pos 2)) v
free_signs zero [] h = tt
free_signs zero (x ∷ v) h = absurd (omega arith)
free_signs (suc n) [] h = absurd (omega arith)
free_signs (suc n) (x ∷ v) h = (record { at_least = λ e. absurd (cc); at_most = λ e. absurd (cc) }, free_signs n v (omega arith))

free_caps : (n : ℕ) (v : List ℤ) → length v ≡ n → AllZip IsCapped (replicate n None) v
free_caps zero [] h = tt
free_caps zero (x ∷ v) h = absurd (omega arith)
free_caps (suc n) [] h = absurd (omega arith)
free_caps (suc n) (x ∷ v) h = (tt, free_caps n v (omega arith))

length-replicated : (n : ℕ) (x : ℤ) → length (replicate n x) ≡ n
length-replicated zero x = refl
length-replicated (suc n) x = ap suc (length-replicated n x)

rows_hold : (m : ℕ) (rows : List (List ℤ)) (v : List ℤ) → length rows ≡ m → IsInKernel rows v →
    AllByRecursion (λ r. Stands r.relation (dot r.coefficients v) (r.right *ℤ pos 0)) (user_rows rows (replicate m Equal) (replicate m (pos 0)))
rows_hold m [] v h k = tt
rows_hold zero (r ∷ rows) v h k = absurd (omega arith)
rows_hold (suc m) (r ∷ rows) v h k = (k.0, rows_hold m rows v (omega arith) k.1)

rows_give : (m : ℕ) (rows : List (List ℤ)) (v : List ℤ) → length rows ≡ m →
    AllByRecursion (λ r. Stands r.relation (dot r.coefficients v) (r.right *ℤ pos 0)) (user_rows rows (replicate m Equal) (replicate m (pos 0))) → IsInKernel rows v
rows_give m [] v h k = tt
rows_give zero (r ∷ rows) v h k = absurd (omega arith)
rows_give (suc m) (r ∷ rows) v h k = (k.0, rows_give m rows v (omega arith) k.1)

no_slacks : (m : ℕ) (rows : List (List ℤ)) (c : ℤ) (v : List ℤ) → differences (user_rows rows (replicate m Equal) (replicate m (pos 0))) c v ≡ []
no_slacks m [] c v = refl
no_slacks zero (r ∷ rows) c v = refl
no_slacks (suc m) (r ∷ rows) c v = no_slacks m rows c v

append_nothing : (v : List ℤ) → v ++ [] ≡ v
append_nothing [] = refl
append_nothing (x ∷ v) = ap (λ w. x ∷ w) (append_nothing v)

module _ (n m : ℕ) (rows : List (List ℤ)) (count : length rows ≡ m) where
  full_is : (c : ℤ) (v : List ℤ) → full_vector (free_system n m rows) c v ≡ v
  full_is c v = ap (λ s. v ++ (s ++ [])) (no_slacks m rows c v) ∙ append_nothing v

  user_from_kernel : (v : List ℤ) → IsKernelVector n rows v → IsUserSolution (free_system n m rows) (pos 0) v
  user_from_kernel v h = record {
    factor = refl;
    solves = record { signs = free_signs n v h.columns; caps = free_caps n v h.columns; rows = rows_hold m rows v count h.kernel };
  }

  kernel_from_user : (c : ℤ) (v : List ℤ) → IsUserSolution (free_system n m rows) c v → IsKernelVector n rows v
  kernel_from_user c v h = record {
    columns = sym (length_all_zip HasSign (replicate n (pos 2)) v h.solves.signs) ∙ length-replicated n (pos 2);
    kernel = rows_give m rows v count
        (subst (λ (d : ℤ). AllByRecursion (λ r. Stands r.relation (dot r.coefficients v) (r.right *ℤ d)) (user_rows rows (replicate m Equal) (replicate m (pos 0)))) h.factor h.solves.rows);
  }

  minimal_from_user : (v : List ℤ) → IsMinimalOfKind (free_system n m rows) Every v → IsMinimal (IsKernelVector n rows) v
  minimal_from_user v h =
      let c = h.c in record {
        member = kernel_from_user c v h.minimal.solution;
        nonzero = λ z. h.minimal.nonzero (subst IsZero (sym (full_is c v)) z);
        least = λ w p nonzero b.
            (h.minimal.least (pos 0) w (user_from_kernel w p) (λ z. nonzero (subst IsZero (full_is (pos 0) w) z))
            (subst (λ (x : List ℤ). x ⊑ full_vector (free_system n m rows) c v) (sym (full_is (pos 0) w)) (subst (λ (x : List ℤ). w ⊑ x) (sym (full_is c v)) b))).1;
      }

  user_from_minimal : (v : List ℤ) → IsMinimal (IsKernelVector n rows) v → IsMinimalOfKind (free_system n m rows) Every v
  user_from_minimal v h = record {
    c = pos 0;
    of_kind = tt;
    minimal = record {
      solution = user_from_kernel v h.member;
      nonzero = λ z. h.nonzero (subst IsZero (full_is (pos 0) v) z);
      least = λ d w s nonzero b. (
        s.factor,
        h.least w (kernel_from_user d w s) (λ z. nonzero (subst IsZero (sym (full_is d w)) z))
            (subst (λ (x : List ℤ). x ⊑ v) (full_is d w) (subst (λ (x : List ℤ). full_vector (free_system n m rows) d w ⊑ x) (full_is (pos 0) v) b)),
      );
    };
  }

-- the rows are minimal vectors that lead positive, and all of these are there
pub record IsHalf (n : ℕ) (rows set : List (List ℤ)) : Type 0 where
  pub minimal : (v : List ℤ) → Contains set v → IsMinimal (IsKernelVector n rows) v
  pub positive : (v : List ℤ) → Contains set v → leads_negative v ≡ false
  pub there : (v : List ℤ) → IsMinimal (IsKernelVector n rows) v → leads_negative v ≡ false → Contains set v

is_false : (b : Bool) → (IsTrue b → ⊥) → b ≡ false
is_false true h = absurd (h refl)
is_false false h = refl

not_true : (b : Bool) → b ≡ false → IsTrue b → ⊥
not_true b e h = cc

pub basis_is_half : (mat : Matrix) (set : List (List ℤ)) → IsGraverBasis mat set → IsHalf mat.cols (rows_in mat) set
basis_is_half mat set h =
    let count : length (rows_in mat) ≡ mat.rows = length-cut_rows mat.rows mat.cols mat.cells in record {
      minimal = λ v c. minimal_from_user mat.cols mat.rows (rows_in mat) count v ((h.members v).0 c).0;
      positive = λ v c.
          let m = minimal_from_user mat.cols mat.rows (rows_in mat) count v ((h.members v).0 c).0 in
          is_false (leads_negative v) (((h.members v).0 c).1 (user_from_minimal mat.cols mat.rows (rows_in mat) count (negated v) (minimal_negated mat.cols (rows_in mat) v m)));
      there = λ v m e. (h.members v).1 (user_from_minimal mat.cols mat.rows (rows_in mat) count v m, λ _. not_true (leads_negative v) e);
    }

-- a minimal vector or its negative is there
pub half_has : (n : ℕ) (rows set : List (List ℤ)) → IsHalf n rows set → (v : List ℤ) → IsMinimal (IsKernelVector n rows) v → Contains set v ⊎ Contains set (negated v)
half_has n rows set h v m =
    elim (leads_negative v) as (λ b. leads_negative v ≡ b → Contains set v ⊎ Contains set (negated v)) [
      | false ↦ λ e. inl (h.there v m e)
      | true ↦ λ e. inr (h.there (negated v) (minimal_negated n rows v m) (one_leads_negative v m.nonzero ∙ ap not e))
    ] refl
