-- One block more is drawn and worked out.
use Rattle.std.proofs.Common.{ap, ◌∙◌, arith}
use Rattle.norm_board.specs.declared.rule.View.{View}
use Rattle.worker_gate.proofs.Works.{has_stepped, draw_gains, leaves_gains, last_drawn}
use Rattle.worker_gate.proofs.worker.work.Goals as goal

pub put_full-requires : goal.put_full-requires
put_full-requires g c =
    let before = c.loop-share.invariant.worker in
    let drew = rw c.in-Some-drawn.is at c.draw-drawn.ensures.some in
    let ready = c.ready.ensures.same in
    let alike = c.evaluate.ensures.alike in
    record {
      own = c.draw-drawn.ensures.same;
      free = ap (λ (v : View). v.holding) drew.0 ∙ before.free;
      is_of = record { stage = alike.stage ∙ (ready.stage ∙ before.is_of.stage); norm = alike.norm ∙ (ready.norm ∙ before.is_of.norm) };
      blocks = has_stepped _ _ _ _ _ _ before.blocks drew.0 ready.blocks c.evaluate.ensures.blocks;
    }

pub returns-in_err-put_full-clause-gained : goal.returns-in_err-put_full-clause-gained
returns-in_err-put_full-clause-gained g c =
    let drew = rw c.in-Some-drawn.is at c.draw-drawn.ensures.some in
    leaves_gains _ _ _ (draw_gains _ _ _ _ c.loop-share.invariant.gained drew.0) c.put_full.ensures.leaves

pub loop-share-preserved : goal.loop-share-preserved
loop-share-preserved g c =
    let inv = c.loop-share.invariant in
    let drew = rw c.in-Some-drawn.is at c.draw-drawn.ensures.some in
    let block = rw c.in-Some-drawn.is at c.draw-drawn.ensures.block in
    let left = c.put_full.ensures.leaves in
    let inside = block.1 in
    record {
      worker = c.put_full.ensures.still;
      weight = left.weight ∙ (ap (λ (v : View). v.weight) drew.0 ∙ inv.weight);
      missed = omega (arith, left.missed, ap (λ (v : View). v.missed) drew.0, inv.missed);
      gained = leaves_gains _ _ _ (draw_gains _ _ _ _ inv.gained drew.0) left;
      last = λ _. last_drawn _ _ _ (left.drawn ∙ ap (λ (v : View). v.drawn) drew.0);
      fits = omega (arith, inside);
    }
