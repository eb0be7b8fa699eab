-- The full vector of the negative of a solution of graver is the negative of its full vector; and it is a solution where that obeys signs and caps.
use Rattle.std.proofs.Common.{◌≡◌, List, [], ◌∷◌, ◌++◌, length, take, refl, ap, ap₂, sym, ◌∙◌, subst, subst₂, suc, arith, Bool, true, false}
use Rattle.std.specs.Prelude.{ℤ, pos, neg_ℤ, ◌*ℤ◌, ◌-ℤ◌, ◌↔◌}
use Rattle.std.specs.List.{AllByRecursion}
use Rattle.std.proofs.lemmas.Int.{ints}
use Rattle.std.proofs.lemmas.List.{map-append}
use Rattle.std.proofs.lemmas.List.Elements.{length_all_zip}
use Rattle.std.proofs.Math.Seq.{take-append_seam}
use Rattle.int_vector.specs.Vectors.{dot, negated}
use Rattle.lift_core.specs.Columns.{HasSign}
use Rattle.lift_core.specs.Systems.{Solves}
use Rattle.system_shape.specs.Problem.{Relation, at_most, equal_to, at_least, UserRow, UserSystem, difference_before, differences, x0_entry, full_vector, IsUserSolution}
use Rattle.system_shape.specs.Slacks.{linear_system}
use Rattle.system_shape.specs.Laws.{IsWellFormed, x0_in}
use Rattle.system_shape.proofs.Solutions.{solution_of, solves_full}
use Rattle.system_files.proofs.Negatives.{dot-negated}
use Rattle.decompose_tool.specs.Inside.Steps.{Obeys}

zero_times : (b : ℤ) → b *ℤ pos 0 ≡ pos 0
zero_times b = grind (arith, ints)

one_negated : (k : Relation) (p q : ℤ) (rest other : List ℤ) → q ≡ pos 0 → other ≡ negated rest → difference_before k (neg_ℤ p) q other ≡ negated (difference_before k p q rest)
one_negated at_most p q rest other e f = ap₂ (λ x v. x ∷ v) (let g : q -ℤ neg_ℤ p ≡ neg_ℤ (q -ℤ p) = omega (arith, ints, e) in g) f
one_negated equal_to p q rest other e f = f
one_negated at_least p q rest other e f = ap₂ (λ x v. x ∷ v) (let g : neg_ℤ p -ℤ q ≡ neg_ℤ (p -ℤ q) = omega (arith, ints, e) in g) f

differences_negated : (rows : List UserRow) (x : List ℤ) → differences rows (pos 0) (negated x) ≡ negated (differences rows (pos 0) x)
differences_negated [] x = refl
differences_negated (r ∷ rows) x =
    ap (λ p. difference_before r.relation p (r.right *ℤ pos 0) (differences rows (pos 0) (negated x))) (dot-negated r.coefficients x)
    ∙ one_negated r.relation (dot r.coefficients x) (r.right *ℤ pos 0) (differences rows (pos 0) x) (differences rows (pos 0) (negated x)) (zero_times r.right) (differences_negated rows x)

no_entry : (b : Bool) → b ≡ false → x0_entry b (pos 0) ≡ negated (x0_entry b (pos 0))
no_entry true e = cc
no_entry false e = refl

pub full_negated : (U : UserSystem) (x : List ℤ) → U.has_x0 ≡ false → full_vector U (pos 0) (negated x) ≡ negated (full_vector U (pos 0) x)
full_negated U x e =
    let d = differences U.rows (pos 0) x in
    let s = x0_entry U.has_x0 (pos 0) in
    ap₂ (λ a b. negated x ++ (a ++ b)) (differences_negated U.rows x) (no_entry U.has_x0 e)
    ∙ ap (λ a. negated x ++ a) (sym (map-append neg_ℤ d s))
    ∙ sym (map-append neg_ℤ x (d ++ s))

each_opposite : (rows : List (List ℤ)) (v : List ℤ) → AllByRecursion (λ r. dot r v ≡ pos 0) rows → AllByRecursion (λ r. dot r (negated v) ≡ pos 0) rows
each_opposite [] v h = tt
each_opposite (r ∷ rows) v h = (dot-negated r v ∙ ap neg_ℤ h.0, each_opposite rows v h.1)

module _ (U : UserSystem) (well : IsWellFormed U) (e : U.has_x0 ≡ false) (x : List ℤ) (s : IsUserSolution U (pos 0) x) where
  length_is : length (negated x) ≡ length U.signs
  length_is = length-negated_of x ∙ sym (length_all_zip HasSign U.signs x s.solves.signs)
    where
      length-negated_of : (v : List ℤ) → length (negated v) ≡ length v
      length-negated_of [] = refl
      length-negated_of (y ∷ v) = ap suc (length-negated_of v)

  solves_opposite : Obeys (linear_system U) (negated (full_vector U (pos 0) x)) → Solves (linear_system U) (length U.rows) (negated (full_vector U (pos 0) x))
  solves_opposite h = record {
    signs = h.0;
    caps = h.1;
    rows = each_opposite (take (length U.rows) (linear_system U).rows) (full_vector U (pos 0) x) (solves_full U well (pos 0) x s).rows;
  }

  solution_from : Obeys (linear_system U) (negated (full_vector U (pos 0) x)) → IsUserSolution U (pos 0) (negated x)
  solution_from h =
      let v = full_vector U (pos 0) (negated x) in
      let solves : Solves (linear_system U) (length U.rows) v = subst (Solves (linear_system U) (length U.rows)) (sym (full_negated U x e)) (solves_opposite h) in
      let t : IsUserSolution U (x0_in U.has_x0 v) (take (length U.signs) v) = (solution_of U well v solves).0 in
      let first : take (length U.signs) v ≡ negated x = ap (λ n. take n v) (sym length_is) ∙ take-append_seam (negated x) (differences U.rows (pos 0) (negated x) ++ x0_entry U.has_x0 (pos 0)) in
      let none : x0_in U.has_x0 v ≡ pos 0 = ap (λ b. x0_in b v) e in
      subst₂ (λ (c : ℤ) (y : List ℤ). IsUserSolution U c y) none first t

  solution_to : IsUserSolution U (pos 0) (negated x) → Obeys (linear_system U) (negated (full_vector U (pos 0) x))
  solution_to t =
      let h = solves_full U well (pos 0) (negated x) t in
      subst (Obeys (linear_system U)) (full_negated U x e) (h.signs, h.caps)

  pub opposite : Obeys (linear_system U) (negated (full_vector U (pos 0) x)) ↔ IsUserSolution U (pos 0) (negated x)
  opposite = (solution_from, solution_to)
