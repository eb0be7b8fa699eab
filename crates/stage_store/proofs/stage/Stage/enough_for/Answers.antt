-- By the law of halves the rows of at most half of the norm are enough where the lists are the defined ones; all rows
-- always are.
use Rattle.std.proofs.Common.{sym, subst, drop, false}
use Rattle.lift_core.specs.Stages.{IsNextNorm}
use Rattle.stage_store.specs.Stage.{StageValue}
use Rattle.stage_store.specs.Opened.{AreEnough}
use Rattle.stage_store.proofs.ClosedNorm.{value_of}
use Rattle.stage_store.proofs.Halves.{all_enough, half_enough}
use Rattle.stage_store.proofs.stage.Stage.enough_for.Goals as goal

pub returns-then-not-is_empty : goal.returns-then-not-is_empty
returns-then-not-is_empty c =
    subst (λ (s : StageValue). AreEnough s c.args.e (record { rows = c.rows_within.result; by_x0 = c.eq.result })) c.self.view_is
    (half_enough (value_of c.self.inside.system c.self.inside.number c.self.inside.norm c.self.inside.before c.self.inside.listed.rows (drop c.self.inside.waited c.self.inside.waiting.rows)) c.args.e c.rows_within.result c.eq.result
    c.self.invariant.stage (c.self.invariant.ahead_is.defined c.if-self.true) (subst (λ (s : StageValue). IsNextNorm s.listed s.waiting s.norm c.args.e) (sym c.self.view_is) c.requires)
    c.rows_within.ensures.within c.rows_within.ensures.behind)

pub returns-else-self : goal.returns-else-self
returns-else-self c =
    subst (λ (s : StageValue). AreEnough s c.args.e (record { rows = c.len.result; by_x0 = false })) c.self.view_is
    (all_enough (value_of c.self.inside.system c.self.inside.number c.self.inside.norm c.self.inside.before c.self.inside.listed.rows (drop c.self.inside.waited c.self.inside.waiting.rows)) c.args.e c.len.result c.len.ensures)
