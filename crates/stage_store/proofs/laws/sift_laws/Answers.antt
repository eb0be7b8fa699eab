-- Each clause is a lemma of `SiftLaws`.
use Rattle.stage_store.proofs.SiftLaws.{clash, caps, near, far, stays}
use Rattle.stage_store.proofs.laws.sift_laws.Goals as goal

pub returns-clause-clash : goal.returns-clause-clash
returns-clause-clash c = clash

pub returns-clause-caps : goal.returns-clause-caps
returns-clause-caps c = caps

pub returns-clause-near : goal.returns-clause-near
returns-clause-near c = near

pub returns-clause-reach : goal.returns-clause-reach
returns-clause-reach c = far

pub returns-clause-stable : goal.returns-clause-stable
returns-clause-stable c = stays
