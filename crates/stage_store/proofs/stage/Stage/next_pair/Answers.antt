-- Where the norm is opened, the next one of its open pairs; else the next pair.
use Rattle.std.proofs.Common.{ℕ, length, subst, MatchOption}
use Rattle.stage_store.specs.Stage.{StageValue}
use Rattle.stage_store.specs.Classes.{pairs_of}
use Rattle.stage_store.specs.Numbered.{HasNoneBetween, IsNextPair}
use Rattle.stage_store.specs.Opened.{IsAhead}
use Rattle.stage_store.proofs.stage.Stage.next_pair.Goals as goal

pub next_opened-requires : goal.next_opened-requires
next_opened-requires c =
    let a : IsAhead c.args.self.now c.self.inside.ahead = subst (λ (s : StageValue). IsAhead s c.self.inside.ahead) c.self.view_is c.self.invariant.ahead_is in
    a.opens c.if-self.true

pub returns-then-self-norm : goal.returns-then-self-norm
returns-then-self-norm c =
    let s : StageValue = c.args.self.now in
    subst (λ (e : ℕ). MatchOption c.next_opened.result (HasNoneBetween s e c.args.first (length (pairs_of s.listed e))) (λ next. IsNextPair s e c.args.first next.0 next.1.0)) c.if-self-norm.true c.next_opened.ensures
