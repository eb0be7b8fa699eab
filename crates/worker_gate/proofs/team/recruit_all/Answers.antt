-- One worker more takes a unit of the weight.
use Rattle.std.proofs.Common.{◌≡◌, ap, ◌∙◌, arith}
use Rattle.std.proofs.lemmas.List.Elements.{All-push}
use Rattle.norm_board.specs.Seen.{view}
use Rattle.norm_board.specs.declared.pass.Pass.{Pass}
use Rattle.norm_board.specs.declared.rule.View.{View}
use Rattle.norm_board.proofs.Lists.{total-snoc}
use Rattle.worker_gate.specs.Inside.Team.{IsReady, IsEmpty, worker_weight, missed_of}
use Rattle.worker_gate.proofs.team.recruit_all.Goals as goal

pub loop-i-preserved : goal.loop-i-preserved
loop-i-preserved c =
    let v = c.loop-i.invariant in
    let s = c.split-other.ensures in
    let items = c.push_reserved.ensures.items in
    let w = c.recruit.result in
    let e = c.recruit.ensures in
    let weight : worker_weight w ≡ 1 = ap (λ (p : Pass). (view p).weight) e.pass ∙ ap (λ (u : View). u.weight) s.second in
    let missed : missed_of w ≡ 0 = ap (λ (p : Pass). (view p).missed) e.pass ∙ ap (λ (u : View). u.missed) s.second in
    let less = ap (λ (u : View). u.weight) s.first in
    let len = c.push_reserved.ensures.len in
    let cap = c.push_reserved.ensures.capacity in
    let tw = total-snoc worker_weight c.loop-i.team.items w in
    let tm = total-snoc missed_of c.loop-i.team.items w in
    record {
      own = s.same.0;
      free = ap (λ (u : View). u.holding) s.first ∙ v.free;
      drawn = ap (λ (u : View). u.drawn) s.first ∙ v.drawn;
      weight = omega arith;
      missed = ap (λ (u : View). u.missed) s.first ∙ v.missed;
      whole = v.whole;
      room = omega arith;
      count = omega arith;
      ready = rw items (All-push (IsReady c.args.board.now) c.loop-i.team.items w v.ready e.ready);
      empty = rw items (All-push IsEmpty c.loop-i.team.items w v.empty e.empty);
      weights = rw items (omega arith);
      missing = rw items (omega arith);
    }

pub returns-clause-ready : goal.returns-clause-ready
returns-clause-ready c = rw c.push_reserved-2.ensures.items (All-push (IsReady c.args.board.now) c.loop-i.team.items c.recruit-2.result c.loop-i.invariant.ready c.recruit-2.ensures.ready)

pub returns-clause-empty : goal.returns-clause-empty
returns-clause-empty c = rw c.push_reserved-2.ensures.items (All-push IsEmpty c.loop-i.team.items c.recruit-2.result c.loop-i.invariant.empty c.recruit-2.ensures.empty)

pub returns-clause-weight : goal.returns-clause-weight
returns-clause-weight c =
    let v = c.loop-i.invariant in
    let t = total-snoc worker_weight c.loop-i.team.items c.recruit-2.result in
    let w : worker_weight c.recruit-2.result ≡ (view c.loop-i.pass).weight = ap (λ (p : Pass). (view p).weight) c.recruit-2.ensures.pass in
    rw c.push_reserved-2.ensures.items (omega arith)

pub returns-clause-missed : goal.returns-clause-missed
returns-clause-missed c =
    let v = c.loop-i.invariant in
    let t = total-snoc missed_of c.loop-i.team.items c.recruit-2.result in
    let w : missed_of c.recruit-2.result ≡ (view c.loop-i.pass).missed = ap (λ (p : Pass). (view p).missed) c.recruit-2.ensures.pass in
    rw c.push_reserved-2.ensures.items (omega arith)
