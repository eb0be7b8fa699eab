-- The stage after a closed norm is a stage.
use Rattle.std.proofs.Common.{◌≡◌, ℕ, ◌+◌, ◌^◌, ◌≤◌, ◌<◌, List, [], ◌∷◌, length, ap, sym, ◌∙◌, subst, arith, inl, inr, length-append, ◌-◌}
use Rattle.std.specs.Prelude.{ℤ}
use Rattle.std.specs.List.{Contains}
use Rattle.std.specs.List.Sorted.{IsStrictlySortedBy}
use Rattle.lift_core.specs.Systems.{row}
use Rattle.int_vector.specs.Vectors.{dot, largest}
use Rattle.int_vector.specs.Operations.{add}
use Rattle.lift_core.specs.Stages.{stage_norm, norm_cmp, IsStageVector, IsNextNorm}
use Rattle.lift_core.specs.PairSums.{IsNewSum}
use Rattle.lift_core.specs.Walks.{IsGrown}
use Rattle.lift_core.proofs.Lists.{each_contained, each_from_contained}
use Rattle.lift_core.proofs.Growth.{stage_sum}
use Rattle.lift_core.proofs.Systems.{solution_length}
use Rattle.stage_store.specs.Stage.{StageValue, IsStage, IsStageRow}

-- a new sum is a row of the stage, of norm e
pub sum_is_row : (s : StageValue) (e : ℕ) (z : List ℤ) → IsStage s → 0 < e → e ≤ largest → IsNewSum s.system.equations s.listed e z → IsStageRow s.system.equations s.number z × (stage_norm z ≡ e)
sum_is_row s e z h positive small n =
    let f : IsStageRow s.system.equations s.number n.first = each_contained (IsStageRow s.system.equations s.number) s.listed n.first h.listed_rows n.pair.first_listed in
    let g : IsStageRow s.system.equations s.number n.second = each_contained (IsStageRow s.system.equations s.number) s.listed n.second h.listed_rows n.pair.second_listed in
    let v : IsStageVector s.system.equations s.number (add n.first n.second) × (stage_norm (add n.first n.second) ≡ stage_norm n.first + stage_norm n.second) = stage_sum s.system.equations s.number n.first n.second f.vector g.vector n.sum in
    let vector : IsStageVector s.system.equations s.number z = subst (λ (y : List ℤ). IsStageVector s.system.equations s.number y) (sym n.is) v.0 in
    let norm_is : stage_norm z ≡ e = ap stage_norm n.is ∙ v.1 ∙ n.norms in (
      record {
        vector = vector;
        positive = omega (arith, norm_is, positive);
        small = omega (arith, norm_is, small);
        entries = omega (arith, ap length vector.is, length-append vector.part (dot (row s.system.equations s.number) vector.part ∷ []), solution_length s.system.equations (s.number - 1) vector.part vector.member);
      },
      norm_is,
    )

-- the value after norm e
abbrev pub after : StageValue → ℕ → List (List ℤ) → List (List ℤ) → StageValue
after s e listed waiting = record { system = s.system; number = s.number; norm = e; before = s.before; listed = listed; waiting = waiting }

pub next_stage : (s : StageValue) (e : ℕ) (grown waiting : List (List ℤ)) → IsStage s → IsNextNorm s.listed s.waiting s.norm e → e ≤ largest → IsGrown s.system.equations s.listed s.waiting e grown → length grown ≤ 2 ^ 21
    → IsStrictlySortedBy norm_cmp waiting → length waiting ≤ 2 ^ 21 → ((z : List ℤ) → Contains waiting z → Contains s.waiting z × (e < stage_norm z)) → IsStage (after s e grown waiting)
next_stage s e grown waiting h next small g len order wlen still =
    let positive : 0 < e = omega (arith, next.above) in
    record {
      system_kept = h.system_kept;
      number_from = h.number_from;
      number_to = h.number_to;
      norm_small = small;
      before_small = h.before_small;
      listed_rows = each_from_contained (IsStageRow s.system.equations s.number) grown (λ z c. elim ((g.members z).0 c) [
        | inl a ↦ each_contained (IsStageRow s.system.equations s.number) s.listed z h.listed_rows a
        | inr (inl w) ↦ each_contained (IsStageRow s.system.equations s.number) s.waiting z h.waiting_rows w.waits
        | inr (inr n) ↦ (sum_is_row s e z h positive small n).0
      ]);
      waiting_rows = each_from_contained (IsStageRow s.system.equations s.number) waiting (λ z c. each_contained (IsStageRow s.system.equations s.number) s.waiting z h.waiting_rows (still z c).0);
      listed_ascending = g.ascending;
      waiting_ascending = order;
      listed_norms = each_from_contained (λ z. stage_norm z ≤ e) grown (λ z c. elim ((g.members z).0 c) [
        | inl a ↦ omega (arith, each_contained (λ z. stage_norm z ≤ s.norm) s.listed z h.listed_norms a, next.above)
        | inr (inl w) ↦ omega (arith, w.norm_is)
        | inr (inr n) ↦ omega (arith, (sum_is_row s e z h positive small n).1)
      ]);
      waiting_norms = each_from_contained (λ z. e < stage_norm z) waiting (λ z c. (still z c).1);
      listed_length = len;
      waiting_length = wlen;
    }
