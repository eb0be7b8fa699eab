-- All places taken in are of lines in which the row is marked, and one more is.
use Rattle.std.proofs.Common.{◌∙◌, ap, sym, subst, List, ℕ}
use Rattle.stage_store.specs.Lines.{AreMarked}
use Rattle.stage_store.proofs.LineBits.{marked_more}
use Rattle.stage_store.proofs.lines.Lines.take_marked.Goals as goal
use Rattle.stage_store.proofs.lines.Lines.take_marked.Goals.{in-Some+in_ok-push, in_default}

pub loop-k-preserved : goal.loop-k-preserved
loop-k-preserved c = elim c.match-marked_in.branch [
  | in-Some+in_ok-push w ↦ marked_more c.args.self.now c.args.q w.in-Some.place c.loop-k.places.items c.match-marked_in.places.items (ap (λ v. v.items) w.places-is ∙ w.in_ok-push.ensures.items) w.in-Some.ensures c.loop-k.invariant
  | in_default w ↦ subst (λ (l : List ℕ). AreMarked c.args.self.now c.args.q l) (sym (ap (λ v. v.items) w.places-is)) c.loop-k.invariant
]
