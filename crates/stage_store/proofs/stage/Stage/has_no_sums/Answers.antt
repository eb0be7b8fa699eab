-- Each pair of an opened norm that has an irreducible sum is open, so where none is open none has one.
use Rattle.std.proofs.Common.{ℕ, List, subst, rules}
use Rattle.std.specs.Prelude.{ℤ}
use Rattle.lift_core.specs.PairSums.{IsNewSum}
use Rattle.stage_store.specs.Stage.{StageValue}
use Rattle.stage_store.specs.Opened.{IsAhead}
use Rattle.stage_store.proofs.NumberedSums.{none_open}
use Rattle.stage_store.proofs.stage.Stage.has_no_sums.Goals as goal

pub returns-then-self-norm : goal.returns-then-self-norm
returns-then-self-norm c = λ t.
    let a : IsAhead c.args.self.now c.self.inside.ahead = subst (λ (s : StageValue). IsAhead s c.self.inside.ahead) c.self.view_is c.self.invariant.ahead_is in
    subst (λ (e : ℕ). (z : List ℤ) → IsNewSum c.args.self.now.system.equations c.args.self.now.listed e z → ⊥) c.if-self-norm.true
    (none_open c.args.self.now c.self.inside.ahead.norm c.self.inside.ahead.pairs.items (a.opens c.if-self.true) (search (rules, c.is_empty.ensures, t)))
