-- A kept pair of another norm, or of rows that are not listed, has no number at norm e.
use Rattle.std.proofs.Common.{◌∙◌, ap, arith}
use Rattle.lift_core.specs.Stages.{stage_norm, has_positive_last}
use Rattle.stage_store.proofs.Opening.{first_inside, not_numbered, match_both}
use Rattle.stage_store.proofs.opened.number_of_kept.Goals as goal
use Rattle.stage_store.proofs.opened.number_of_kept.Goals.{then-pair-e-via-then-pair-e, then-pair-e-via-else-pair-e+then-pair-len}

pub returns-then-pair-e : goal.returns-then-pair-e
returns-then-pair-e c = λ e k. elim c.then-pair-e.branch [
  | then-pair-e-via-then-pair-e w ↦ w.if-pair-e.true e
  | then-pair-e-via-else-pair-e+then-pair-len w ↦ omega (arith, w.if-pair-len.true, w.len.ensures, first_inside c.args.listed.now.rows has_positive_last c.args.plus.now c.args.minus.now c.args.e c.args.pair.first c.args.pair.second c.requires.plus k)
]

pub returns : goal.returns
returns c = match_both c.number_of.result
    (λ h e k. not_numbered c.args.listed.now.rows has_positive_last c.args.plus.now c.args.minus.now c.args.e c.norm_of-norm.result c.args.pair.first c.args.pair.second c.requires.plus (c.norm_of-norm.ensures ∙ ap stage_norm c.row.ensures.row) h k)
    (λ p h. h)
    c.number_of.ensures
