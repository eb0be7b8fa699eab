-- The joined pass has all the weight, and nothing is left where no put was missed.
use Rattle.std.proofs.Common.{◌∙◌, sym}
use Rattle.worker_gate.proofs.Teams.{ended_weight, ended_empty}
use Rattle.worker_gate.proofs.team.run_norm.Goals as goal

pub returns-clause-weight : goal.returns-clause-weight
returns-clause-weight g c =
    let r = c.run_team.ensures in
    let t = c.in_ok-team.ensures in
    c.in_ok-pass.ensures.weight ∙ (ended_weight c.args.board _ _ r.len r.ended ∙ (t.weight ∙ c.requires.weight.0))

pub returns-clause-empty : goal.returns-clause-empty
returns-clause-empty g c same =
    let r = c.run_team.ensures in
    let t = c.in_ok-team.ensures in
    let p = c.in_ok-pass.ensures in
    p.empty (ended_empty c.args.board c.in_ok-team.team.items c.run_team.new.team.items r.len r.ended p.fine (sym p.missed ∙ (same ∙ sym t.missed)))
