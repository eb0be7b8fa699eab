-- All places taken in are of lines that are said, and one more is.
use Rattle.std.proofs.Common.{◌∙◌, ap, sym, subst, arith, List, ℕ}
use Rattle.stage_store.specs.Lines.{AreSaid}
use Rattle.stage_store.proofs.LineBits.{said_more}
use Rattle.stage_store.proofs.lines.take_said.Goals as goal
use Rattle.stage_store.proofs.lines.take_said.Goals.{in-Some+in_ok-push, in_default}

pub loop-k-preserved : goal.loop-k-preserved
loop-k-preserved c = elim c.match-edge.branch [
  | in-Some+in_ok-push w ↦
      said_more c.args.upper c.args.levels.now c.loop-k.k w.in-Some.level _ c.loop-k.places.items c.match-edge.places.items (omega (arith, c.loop-k-test.true, c.min-k-end.ensures)) w.in-Some.ensures.level w.in-Some.ensures.said (omega arith)
      (ap (λ v. v.items) w.places-is ∙ w.in_ok-push.ensures.items) c.loop-k.invariant
  | in_default w ↦ subst (λ (l : List ℕ). AreSaid c.args.upper c.args.levels.now l) (sym (ap (λ v. v.items) w.places-is)) c.loop-k.invariant
]
