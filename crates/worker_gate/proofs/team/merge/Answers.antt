-- One worker more is taken in.
use Rattle.std.proofs.Common.{◌≡◌, ◌∙◌, ◌++◌, ◌∷◌, [], List, ℕ, Some, ap, arith}
use Rattle.std.proofs.lemmas.List.Elements.{All-pop, All-push}
use Rattle.lift_core.specs.Times.{total_of}
use Rattle.norm_board.proofs.Lists.{total-snoc}
use Rattle.worker_gate.specs.Inside.Team.{IsEmpty, MayMerge, IsFine, worker_weight, missed_of}
use Rattle.worker_gate.proofs.team.merge.Goals as goal

both_empty : (a b : List ℕ) → a ≡ [] → b ≡ [] → a ++ b ≡ []
both_empty a b e f = λ i. e i ++ f i

pub loop-worker-init : goal.loop-worker-init
loop-worker-init c =
    let e : c.args.team.items ≡ c.pop.new.self.items ++ c.in-Some.first ∷ [] = c.in-Some.ensures.items in
    let d = All-pop (MayMerge c.args.board.now) c.args.team.items c.pop.new.self.items (Some c.in-Some.first) e c.requires.done in
    let w = total-snoc worker_weight c.pop.new.self.items c.in-Some.first in
    let m = total-snoc missed_of c.pop.new.self.items c.in-Some.first in
    let tw = ap (total_of worker_weight) e in
    let tm = ap (total_of missed_of) e in
    record {
      ready = d.1.still;
      done = d.1.done c.if-first.false;
      weight = omega arith;
      missed = omega arith;
      rest = d.0;
      fine = λ f. rw e (All-push IsFine c.pop.new.self.items c.in-Some.first f c.if-first.false);
      empty = λ f. let g = All-pop IsEmpty c.args.team.items c.pop.new.self.items (Some c.in-Some.first) e f in (g.1, g.0);
    }

pub take_in-requires-clause-worker : goal.take_in-requires-clause-worker
take_in-requires-clause-worker c =
    let e : c.loop-worker.team.items ≡ c.pop-in-loop-worker.new.self.items ++ c.in-Some-pop.worker ∷ [] = c.in-Some-pop.ensures.items in
    (All-pop (MayMerge c.args.board.now) c.loop-worker.team.items c.pop-in-loop-worker.new.self.items (Some c.in-Some-pop.worker) e c.loop-worker.invariant.rest).1.still

pub take_in-requires-clause-done : goal.take_in-requires-clause-done
take_in-requires-clause-done c =
    let e : c.loop-worker.team.items ≡ c.pop-in-loop-worker.new.self.items ++ c.in-Some-pop.worker ∷ [] = c.in-Some-pop.ensures.items in
    let d = All-pop (MayMerge c.args.board.now) c.loop-worker.team.items c.pop-in-loop-worker.new.self.items (Some c.in-Some-pop.worker) e c.loop-worker.invariant.rest in
    (c.loop-worker.invariant.done, d.1.done c.if-worker.false)

pub loop-worker-preserved : goal.loop-worker-preserved
loop-worker-preserved c =
    let v = c.loop-worker.invariant in
    let k = c.in_ok-take_in.ensures in
    let e : c.loop-worker.team.items ≡ c.pop-in-loop-worker.new.self.items ++ c.in-Some-pop.worker ∷ [] = c.in-Some-pop.ensures.items in
    let d = All-pop (MayMerge c.args.board.now) c.loop-worker.team.items c.pop-in-loop-worker.new.self.items (Some c.in-Some-pop.worker) e v.rest in
    let w = total-snoc worker_weight c.pop-in-loop-worker.new.self.items c.in-Some-pop.worker in
    let m = total-snoc missed_of c.pop-in-loop-worker.new.self.items c.in-Some-pop.worker in
    let tw = ap (total_of worker_weight) e in
    let tm = ap (total_of missed_of) e in
    let kw = k.weight in
    let km = k.missed in
    let vw = v.weight in
    let vm = v.missed in
    record {
      ready = k.ready;
      done = k.done;
      weight = omega arith;
      missed = omega arith;
      rest = d.0;
      fine = λ f. v.fine (rw e (All-push IsFine c.pop-in-loop-worker.new.self.items c.in-Some-pop.worker f c.if-worker.false));
      empty = λ f. let g = v.empty f in
          let h = All-pop IsEmpty c.loop-worker.team.items c.pop-in-loop-worker.new.self.items (Some c.in-Some-pop.worker) e g.1 in
          (k.blocks ∙ both_empty c.loop-worker.all.share.blocks c.in-Some-pop.worker.share.blocks g.0 h.1, h.0);
    }
