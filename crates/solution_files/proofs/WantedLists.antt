-- What is selected from all minimal solutions is what is wanted.
use Rattle.std.proofs.Common.{◌≡◌, ℕ, List, length, refl, subst}
use Rattle.std.specs.Prelude.{ℤ}
use Rattle.lift_core.specs.declared.Tool.{Tool}
use Rattle.lift_core.specs.declared.Tool.TheVariants.{Graver, Hilbert, Zsolve}
use Rattle.lift_core.specs.Systems.{LinearSystem}
use Rattle.lift_core.specs.Lists.{IsListOf}
use Rattle.int_vector.specs.Vectors.{lex_cmp, negated}
use Rattle.lift_core.specs.Ends.{IsSolutionList}
use Rattle.lift_core.specs.Columns.{SolutionKind, Every}
use Rattle.lift_core.specs.Inside.Written.{IsWrittenOf, IsWanted, IsWantedGraver}
use Rattle.solution_files.specs.Outputs.{IsProjected, IsTaken}

-- the same members, the same list
list_of_both : {X : Type 0} {cmp : _} {P Q : X → Type 0} {xs : List X} → ((x : X) → P x → Q x) → ((x : X) → Q x → P x) → IsListOf cmp P xs → IsListOf cmp Q xs
list_of_both f g h = record { ascending = h.ascending; members = λ x. (λ c. f x ((h.members x).0 c), λ q. (h.members x).1 (g x q)) }

module _ (S : LinearSystem) (n : ℕ) (finished : List (List ℤ)) (all : IsSolutionList S (length S.rows) finished) where
  written_from_projected : (kind : SolutionKind) (x : List ℤ) → IsProjected finished n kind x → IsWrittenOf S n kind x
  written_from_projected kind x p = record { solution = p.solution; minimal = (all.members p.solution).0 p.among; x0 = p.home; is = p.is }

  projected_from_written : (kind : SolutionKind) (x : List ℤ) → IsWrittenOf S n kind x → IsProjected finished n kind x
  projected_from_written kind x w = record { solution = w.solution; among = (all.members w.solution).1 w.minimal; home = w.x0; is = w.is }

  pub wanted_plain : (tool : Tool) (kind : SolutionKind) (rows : List (List ℤ)) → (tool ≡ Graver → ⊥) → IsListOf lex_cmp (IsTaken tool finished n kind) rows → IsWanted S n kind rows
  wanted_plain Graver kind rows other h = absurd (other refl)
  wanted_plain Hilbert kind rows other h = list_of_both (written_from_projected kind) (projected_from_written kind) h
  wanted_plain Zsolve kind rows other h = list_of_both (written_from_projected kind) (projected_from_written kind) h

  wanted_halved : (rows : List (List ℤ)) → IsListOf lex_cmp (IsTaken Graver finished n Every) rows → IsWantedGraver S n rows
  wanted_halved rows h =
      list_of_both
      (λ x t. (written_from_projected Every x t.0, λ w. t.1 (projected_from_written Every (negated x) w)))
      (λ x t. (projected_from_written Every x t.0, λ p. t.1 (written_from_projected Every (negated x) p)))
      h

  pub wanted_graver : (tool : Tool) (rows : List (List ℤ)) → tool ≡ Graver → IsListOf lex_cmp (IsTaken tool finished n Every) rows → IsWantedGraver S n rows
  wanted_graver tool rows is h = wanted_halved rows (subst (λ t. IsListOf lex_cmp (IsTaken t finished n Every) rows) is h)
