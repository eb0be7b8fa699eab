-- Each clause is a lemma of `Walks`, `Ends` or `OneWalk`.
use Rattle.lift_core.proofs.Walks.{walk_ends, run_walks}
use Rattle.lift_core.proofs.Ends.{one_end, one_run, finished_rows, finished_run}
use Rattle.lift_core.proofs.OneWalk.{one_walk}
use Rattle.lift_core.proofs.laws.end_law.Goals as goal

pub returns-clause-walk : goal.returns-clause-walk
returns-clause-walk c = λ S limits k d used listed waiting end first up_to l w u walk. walk_ends S limits walk first up_to l w u

pub returns-clause-one : goal.returns-clause-one
returns-clause-one c = λ S limits k d first second p q. one_end S limits p q

pub returns-clause-rows : goal.returns-clause-rows
returns-clause-rows c = finished_rows

pub returns-clause-one_walk : goal.returns-clause-one_walk
returns-clause-one_walk c = λ S limits k d used listed waiting first second p q. one_walk S limits p q

pub returns-clause-run_walks : goal.returns-clause-run_walks
returns-clause-run_walks c = run_walks

pub returns-clause-one_run : goal.returns-clause-one_run
returns-clause-one_run c = one_run

pub returns-clause-finished_run : goal.returns-clause-finished_run
returns-clause-finished_run c = finished_run
