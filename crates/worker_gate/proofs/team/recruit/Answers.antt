-- A worker that has done nothing is ready.
use Rattle.std.proofs.Common.{ap, arith, ◌∙◌, sym, subst₂}
use Rattle.lift_core.specs.Times.{times}
use Rattle.norm_board.specs.Books.{BookValue}
use Rattle.norm_board.specs.declared.pass.Pass.{Pass}
use Rattle.worker_gate.specs.Work.{IsWorker}
use Rattle.worker_gate.proofs.team.recruit.Goals as goal

pub returns-clause-ready : goal.returns-clause-ready
returns-clause-ready c =
    let fresh = c.requires.fresh in
    let share = c.new.ensures in
    subst₂ (λ (p : Pass) (s : BookValue). IsWorker c.args.board.now p s) (sym c.new-2.ensures.0) (sym c.new-2.ensures.1) (record {
      own = c.requires.own;
      free = fresh.free;
      is_of = record { stage = share.stage.0 ∙ sym c.requires.stage.0; norm = share.stage.1 ∙ sym c.requires.stage.1 };
      blocks = λ x. let k = c.weight-weight.ensures.kept x in let d = ap (times x) fresh.drawn in let b = ap (times x) share.empty.0 in omega arith;
    })
