-- No block was drawn by both, so the joined pass has drawn the blocks of both shares.
use Rattle.std.proofs.Common.{◌∙◌, ap}
use Rattle.norm_board.specs.declared.rule.View.{View}
use Rattle.norm_board.specs.Seen.{view}
use Rattle.worker_gate.proofs.Works.{merge_apart, merge_has}
use Rattle.worker_gate.proofs.team.take_in.Goals as goal

pub absorb-requires-clause-apart : goal.absorb-requires-clause-apart
absorb-requires-clause-apart c = merge_apart (view c.args.all.now.pass) (view c.args.worker.pass) (view c.join.new.pass) _ _ c.requires.all.blocks c.requires.worker.blocks c.join.ensures.view _ c.join.ensures.apart

pub returns-clause-ready : goal.returns-clause-ready
returns-clause-ready c =
    let ok = c.in_ok-absorb.ensures.ok.0 in
    let alike = c.in_ok-absorb.ensures.alike.0 in
    let of = c.requires.all.is_of in
    let has = merge_has (view c.args.all.now.pass) (view c.args.worker.pass) (view c.join.new.pass) _ _ c.requires.all.blocks c.requires.worker.blocks c.join.ensures.view in
    record {
      own = c.join.ensures.same;
      free = ap (λ (v : View). v.holding) c.join.ensures.view ∙ c.requires.all.free;
      is_of = record { stage = alike.stage ∙ of.stage; norm = alike.norm ∙ of.norm };
      blocks = rw ok has;
    }
