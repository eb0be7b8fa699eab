use Rattle.standing_pool.proofs.Finishing.{of_copy, ends, comes, of_system, system_of, width_of, rows_of}
use Rattle.standing_pool.proofs.running.run_standing.Goals as goal

pub returns-clause-end : goal.returns-clause-end
returns-clause-end g c =
    ends c.in_ok-hall.hall.limits c.args.limits c.args.system c.in_ok-first.first c.answer_standing.result c.with_team.result c.in_ok-hall.ensures c.answer_standing.ensures
    (of_copy _ c.args.system c.in_ok-first.first c.in_ok-copy.ensures c.in_ok-first.ensures.first) c.with_team.ensures.end

pub returns-clause-walk : goal.returns-clause-walk
returns-clause-walk g c =
    comes c.in_ok-hall.hall.limits c.args.limits c.args.system c.in_ok-first.first c.answer_standing.result c.with_team.result c.in_ok-hall.ensures c.answer_standing.ensures
    (of_copy _ c.args.system c.in_ok-first.first c.in_ok-copy.ensures c.in_ok-first.ensures.first) c.with_team.ensures.walk

pub returns-clause-system : goal.returns-clause-system
returns-clause-system g c =
    system_of c.args.system c.answer_standing.result
    (of_system c.args.system c.in_ok-first.first c.answer_standing.result c.with_team.result c.answer_standing.ensures (of_copy _ c.args.system c.in_ok-first.first c.in_ok-copy.ensures c.in_ok-first.ensures.first) c.with_team.ensures.system)

pub returns-clause-width : goal.returns-clause-width
returns-clause-width g c =
    width_of c.args.system c.answer_standing.result
    (of_system c.args.system c.in_ok-first.first c.answer_standing.result c.with_team.result c.answer_standing.ensures (of_copy _ c.args.system c.in_ok-first.first c.in_ok-copy.ensures c.in_ok-first.ensures.first) c.with_team.ensures.system)

pub returns-clause-rows : goal.returns-clause-rows
returns-clause-rows g c =
    rows_of c.args.system c.answer_standing.result c.with_team.result c.answer_standing.ensures
    (of_system c.args.system c.in_ok-first.first c.answer_standing.result c.with_team.result c.answer_standing.ensures (of_copy _ c.args.system c.in_ok-first.first c.in_ok-copy.ensures c.in_ok-first.ensures.first) c.with_team.ensures.system)
    c.with_team.ensures.rows
