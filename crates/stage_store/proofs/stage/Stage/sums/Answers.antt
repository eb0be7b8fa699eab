-- What all numbers of the norm gain, put in order, are the irreducible sums, each once.
use Rattle.std.proofs.Common.{refl, ◌∙◌, subst, ◌⊎◌, List}
use Rattle.std.specs.Prelude.{ℤ}
use Rattle.std.specs.List.{Contains}
use Rattle.lift_core.specs.Lists.{IsListOf}
use Rattle.int_vector.specs.Vectors.{lex_cmp}
use Rattle.stage_store.proofs.NumberedSums.{all_gathered}
use Rattle.stage_store.proofs.stage.Stage.sums.Goals as goal

pub returns : goal.returns
returns c = record {
  norm_is = refl;
  width_is = c.in_ok-in_order.ensures.width ∙ c.in_ok-rows.ensures.width;
  sums = all_gathered c.args.self.now c.args.norm c.pairs_at.result c.pairs_at.ensures.number c.in_ok-rows.rows.rows c.in_ok-in_order.field-0.rows c.keeps.ensures c.requires.next c.requires.small c.in_ok-rows.ensures.gains
      (subst (λ (l : List (List ℤ)). IsListOf lex_cmp (λ z. Contains c.in_ok-rows.rows.rows z ⊎ Contains l z) c.in_ok-in_order.field-0.rows) c.new-none.ensures.1 c.in_ok-in_order.ensures.rows);
}
