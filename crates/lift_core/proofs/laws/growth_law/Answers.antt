-- Each clause is a lemma of `Growth`, `Places` or `Grown`.
use Rattle.lift_core.proofs.Growth.{none_between, next_rows, complete}
use Rattle.lift_core.proofs.Places.{grown_listed, still_waits, used_next}
use Rattle.lift_core.proofs.Grown.{grown_exists}
use Rattle.lift_core.proofs.laws.growth_law.Goals as goal

pub returns-clause-none_between : goal.returns-clause-none_between
returns-clause-none_between c = λ S k d e listed waiting l w next. none_between S k d listed waiting l w e next

pub returns-clause-next_rows : goal.returns-clause-next_rows
returns-clause-next_rows c = λ S k d e listed waiting l w next. next_rows S k d listed waiting l w e next

pub returns-clause-complete : goal.returns-clause-complete
returns-clause-complete c = complete

pub returns-clause-lists_grow : goal.returns-clause-lists_grow
returns-clause-lists_grow c = λ S k d e used listed waiting grown l w u next g. (
  grown_listed S k d listed waiting l w e next grown g,
  still_waits S k d listed waiting l w e next,
  used_next S k d listed waiting l w e next used u grown (grown_listed S k d listed waiting l w e next grown g),
)

pub returns-clause-grows : goal.returns-clause-grows
returns-clause-grows c = grown_exists
