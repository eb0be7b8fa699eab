-- Waiting rows ascend by norm, so the first of those not yet listed has the least norm that waits.
use Rattle.std.proofs.Common.{◌≡◌, ◌∙◌, arith, length, ◌<◌, ◌-◌, subst, ◌+◌, drop, length-drop}
use Rattle.stage_store.specs.Stage.{StageValue}
use Rattle.stage_store.specs.Least.{IsLeastAbove}
use Rattle.stage_store.specs.Answers.{HasWaitingNorm}
use Rattle.stage_store.proofs.StageFields.{waits_answer, at_front}
use Rattle.stage_store.proofs.stage.Stage.first_waiting.Goals as goal

pub returns : goal.returns
returns c =
    let n : length c.row-row.result.now ≡ (length c.row-row.result.now - 1) + 1 = omega (arith, c.row-row.ensures.width, c.self.invariant.waiting_width) in
    let some : 0 < length (drop c.self.inside.waited c.self.inside.waiting.rows) = omega (arith, length-drop c.self.inside.waited c.self.inside.waiting.rows, c.len.ensures, c.if-len-self.false, c.self.invariant.waited_inside) in
    subst (λ (v : StageValue). IsLeastAbove (HasWaitingNorm v.waiting) v.norm c.norm.result) c.self.view_is
    (waits_answer _ c.row-row.result.now c.norm.result (length c.row-row.result.now - 1) c.self.invariant.stage some (c.row-row.ensures.row ∙ at_front c.self.inside.waiting.rows c.self.inside.waited) n c.norm.ensures)
