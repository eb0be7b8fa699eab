-- Over all minimal solutions nothing is left. What is left solves the system, as solutions are closed under differences with solutions below them. Were it
-- not zero, a minimal solution would be below it: a candidate that fits.
use Rattle.std.proofs.Common.{◌≡◌, ℕ, zero, suc, List, [], ◌∷◌, length, sym, ◌∙◌, subst, arith, inl, inr}
use Rattle.std.specs.Prelude.{ℤ}
use Rattle.std.specs.List.{AllByRecursion, Contains}
use Rattle.int_vector.specs.Operations.{subtract}
use Rattle.int_vector.specs.Vectors.{◌⊑◌, IsZero}
use Rattle.int_vector.proofs.Vectors.{length-below}
use Rattle.lift_core.specs.Systems.{IsMinimal, Solves}
use Rattle.lift_core.proofs.Minimal.{IsClosed, minimal_below, zero_or_not}
use Rattle.lift_core.proofs.Lists.{each_contained}
use Rattle.lift_core.proofs.Systems.{solves_closed}
use Rattle.system_shape.specs.Problem.{UserSystem, full_vector, IsUserSolution, IsMinimalForUser}
use Rattle.system_shape.specs.Laws.{IsWellFormed}
use Rattle.system_shape.specs.Slacks.{linear_system}
use Rattle.system_shape.proofs.Law.{full_solves, is_full}
use Rattle.system_shape.proofs.Solutions.{one_solution}
use Rattle.decompose_tool.specs.Walks.{times, Term, IsWalk}
use Rattle.decompose_tool.proofs.Multiples.{length-times, first_below, rest_below, subtract-times, nothing_taken}
use Rattle.decompose_tool.proofs.Walks.{nothing_fits}

module _ (P : List ℤ → Type 0) (closed : IsClosed P) where
  without : (c : ℕ) (u rest : List ℤ) → P u → P rest → times c u ⊑ rest → P (subtract rest (times c u))
  without zero u rest p q b = subst P (sym (nothing_taken u rest (sym (length-times 0 u) ∙ length-below (times 0 u) rest b))) q
  without (suc c) u rest p q b =
      let one : u ⊑ rest = first_below (suc c) u rest (omega arith) b in
      subst P (subtract-times c u rest) (without c u (subtract rest u) p (closed.difference u rest p q one) (rest_below c u rest b))

  left_is_member : (us : List (List ℤ)) (rest : List ℤ) (terms : List Term) (left : List ℤ) → AllByRecursion P us → P rest → IsWalk us rest terms left → P left
  left_is_member [] rest terms left each q h = subst P h.1 q
  left_is_member (u ∷ us) rest terms left each q (inl h) = left_is_member us rest terms left each.1 q h.1
  left_is_member (u ∷ us) rest terms left each q (inr h) =
      left_is_member us (subtract rest (times h.0 u)) h.1 left each.1 (without h.0 u rest each.0 q h.3.below) h.5

  pub nothing_left : (us : List (List ℤ)) (rest : List ℤ) (terms : List Term) (left : List ℤ) → AllByRecursion P us → ((g : List ℤ) → IsMinimal P g → Contains us g) → P rest → IsWalk us rest terms left → IsZero left
  nothing_left us rest terms left each all q h =
      elim (zero_or_not left) [
        | inl z ↦ z
        | inr n ↦
            let m : (g : List ℤ) × IsMinimal P g × (g ⊑ left) = minimal_below P closed left (left_is_member us rest terms left each q h) n in
            absurd (each_contained (λ u. u ⊑ left → ⊥) us m.0 (nothing_fits us rest terms left h) (all m.0 m.1) m.2)
      ]

module _ (U : UserSystem) (well : IsWellFormed U) where
  solution_member : (d : ℤ) (y : List ℤ) → IsUserSolution U d y → Solves (linear_system U) (length U.rows) (full_vector U d y)
  solution_member d y s = full_solves U well d y s.factor s.solves

  each_member : (us : List (List ℤ)) → AllByRecursion (λ u. (d : ℤ) × (y : List ℤ) × IsUserSolution U d y × (u ≡ full_vector U d y)) us → AllByRecursion (Solves (linear_system U) (length U.rows)) us
  each_member [] h = tt
  each_member (u ∷ us) h = let s = h.0 in (subst (Solves (linear_system U) (length U.rows)) (sym s.3) (solution_member s.0 s.1 s.2), each_member us h.1)

  minimal_is_full : (g : List ℤ) → IsMinimal (Solves (linear_system U) (length U.rows)) g → (d : ℤ) × (y : List ℤ) × IsMinimalForUser U d y × (g ≡ full_vector U d y)
  minimal_is_full g m =
      let f = is_full U well g m.member in
      let s : IsUserSolution U f.0 f.1 = record { factor = f.2; solves = f.3 } in (
        f.0,
        f.1,
        record {
          solution = s;
          nonzero = λ z. m.nonzero (subst IsZero (sym f.4) z);
          least = λ d y t n b.
              let same : full_vector U d y ≡ g = m.least (full_vector U d y) (solution_member d y t) n (subst (λ (v : List ℤ). full_vector U d y ⊑ v) (sym f.4) b) in
              one_solution U d f.0 y f.1 t s (same ∙ f.4);
        },
        f.4,
      )

pub nothing_is_left : (U : UserSystem) (c : ℤ) (x : List ℤ) (us : List (List ℤ)) (terms : List Term) (left : List ℤ) → IsWellFormed U → IsUserSolution U c x →
    AllByRecursion (λ u. (d : ℤ) × (y : List ℤ) × IsUserSolution U d y × (u ≡ full_vector U d y)) us →
    ((d : ℤ) (y : List ℤ) → IsMinimalForUser U d y → Contains us (full_vector U d y)) → IsWalk us (full_vector U c x) terms left → IsZero left
nothing_is_left U c x us terms left well s each all h =
    nothing_left (Solves (linear_system U) (length U.rows)) (solves_closed (linear_system U) (length U.rows)) us (full_vector U c x) terms left (each_member U well us each)
    (λ g m. let f = minimal_is_full U well g m in subst (Contains us) (sym f.3) (all f.0 f.1 f.2)) (solution_member U well c x s) h
