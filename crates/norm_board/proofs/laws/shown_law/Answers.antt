-- Each clause is a lemma on one step of the board.
use Rattle.norm_board.proofs.Shown as shown
use Rattle.norm_board.proofs.Ends.{closes_show}
use Rattle.norm_board.proofs.laws.shown_law.Goals as goal

pub returns-clause-start : goal.returns-clause-start
returns-clause-start c = shown.start_shows

pub returns-clause-draw : goal.returns-clause-draw
returns-clause-draw c = shown.draws_show

pub returns-clause-late : goal.returns-clause-late
returns-clause-late c = shown.late_draws_show

pub returns-clause-take : goal.returns-clause-take
returns-clause-take c = shown.takes_show

pub returns-clause-give : goal.returns-clause-give
returns-clause-give c = shown.gives_show

pub returns-clause-back : goal.returns-clause-back
returns-clause-back c = shown.gives_back_show

pub returns-clause-split : goal.returns-clause-split
returns-clause-split c = shown.splits_show

pub returns-clause-join : goal.returns-clause-join
returns-clause-join c = shown.joins_show

pub returns-clause-close : goal.returns-clause-close
returns-clause-close c = closes_show
