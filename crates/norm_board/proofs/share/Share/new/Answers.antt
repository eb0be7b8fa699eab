use Rattle.std.proofs.Common.{false, true, ◌≡◌, sym, ◌∙◌}
use Rattle.norm_board.proofs.share.Share.new.Goals as goal

false_true : false ≡ true → ⊥
false_true e = cc

pub invariant_of-result : goal.invariant_of-result
invariant_of-result c = record { stage_is = c.new.ensures.stage.0; scratch_is = λ n e. cc; there = λ r. absurd (false_true (sym c.new.ensures.empty.2 ∙ r)) }
