-- The parts of a norm: together they are all its irreducible sums.
use Rattle.std.proofs.Common.{◌≡◌, ℕ, ◌+◌, ◌<◌, ◌%◌, List, [], refl, sym, ◌∙◌, subst}
use Rattle.std.specs.Prelude.{ℤ}
use Rattle.std.specs.List.{Contains}
use Rattle.std.proofs.lemmas.Nat.{mod_below}
use Rattle.int_vector.specs.Operations.{add}
use Rattle.lift_core.specs.Systems.{LinearSystem}
use Rattle.lift_core.specs.Stages.{IsPair, stage_norm}
use Rattle.lift_core.specs.PairSums.{HasSum, IsNewSum}
use Rattle.stage_store.specs.Classes.{row_at}
use Rattle.stage_store.proofs.Classes.{get_or-default}
use Rattle.standing_pool.specs.Parts.{IsPartSum, IsInSomePart, PartsAreAll}

-- a sum of one part is a sum of the norm
pub of_part : (S : LinearSystem) (listed : List (List ℤ)) (e i w : ℕ) (z : List ℤ) → IsPartSum S listed e i w z → IsNewSum S listed e z
of_part S listed e i w z p = record { first = row_at listed p.place; second = p.second; pair = p.pair; norms = p.norms; sum = p.sum; is = p.is; irreducible = p.irreducible }

-- a sum of the norm is one of the part of its first row's place
pub in_part : (S : LinearSystem) (listed : List (List ℤ)) (e w : ℕ) → 0 < w → (z : List ℤ) → IsNewSum S listed e z → IsInSomePart S listed e w z
in_part S listed e w some z n =
    let c : Contains listed n.first = n.pair.first_listed in
    let at : n.first ≡ row_at listed c.0 = sym (get_or-default listed c.0 [] n.first c.1 ∙ c.2) in (
      c.0 % w,
      mod_below c.0 w some,
      record {
        place = c.0;
        inside = c.1;
        rest = refl;
        second = n.second;
        pair = subst (λ (f : List ℤ). IsPair listed f n.second) at n.pair;
        norms = subst (λ (f : List ℤ). stage_norm f + stage_norm n.second ≡ e) at n.norms;
        sum = subst (λ (f : List ℤ). HasSum S f n.second) at n.sum;
        is = subst (λ (f : List ℤ). z ≡ add f n.second) at n.is;
        irreducible = n.irreducible;
      },
    )

pub parts_are_all : PartsAreAll
parts_are_all S listed e w some z = (in_part S listed e w some z, λ h. of_part S listed e h.0 w z h.2)
