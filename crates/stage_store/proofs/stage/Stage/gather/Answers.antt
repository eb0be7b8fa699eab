-- Where the norm is opened, its open pairs are gone through; else all pairs of the range are, by the classes. Either
-- gains the same.
use Rattle.std.proofs.Common.{◌+◌, ℕ, subst, refl, arith}
use Rattle.lift_core.specs.Stages.{has_positive_last, has_negative_last}
use Rattle.stage_store.specs.Classes.{AreClasses}
use Rattle.stage_store.specs.Stage.{StageValue, IsStage}
use Rattle.stage_store.proofs.StageFields.{classes_of, stage_of}
use Rattle.stage_store.proofs.Pairs.{parts_small, pairs_count}
use Rattle.stage_store.specs.Numbered.{GainsNumbered}
use Rattle.stage_store.specs.Opened.{IsAhead}
use Rattle.stage_store.proofs.stage.Stage.gather.Goals as goal

pub take_opened-requires-clause-opens : goal.take_opened-requires-clause-opens
take_opened-requires-clause-opens c =
    let a : IsAhead c.args.self.now c.self.inside.ahead = subst (λ (s : StageValue). IsAhead s c.self.inside.ahead) c.self.view_is c.self.invariant.ahead_is in
    a.opens c.if-self.true

pub take_opened-requires-clause-enough : goal.take_opened-requires-clause-enough
take_opened-requires-clause-enough c =
    let a : IsAhead c.args.self.now c.self.inside.ahead = subst (λ (s : StageValue). IsAhead s c.self.inside.ahead) c.self.view_is c.self.invariant.ahead_is in
    a.enough c.if-self.true

pub returns-then-self-norm-clause-gains : goal.returns-then-self-norm-clause-gains
returns-then-self-norm-clause-gains c = subst (λ (e : ℕ). GainsNumbered c.args.self.now e c.args.first (c.args.first + c.args.count) c.args.rows.now.rows c.take_opened.new.rows.rows) c.if-self-norm.true c.take_opened.ensures.gains

pub take_opened-requires-clause-few : goal.take_opened-requires-clause-few
take_opened-requires-clause-few c =
    let s : IsStage c.args.self.now = stage_of c.self.view_is c.self.invariant.stage in
    let p : AreClasses c.args.self.now.listed has_positive_last c.self.inside.plus.items = classes_of has_positive_last c.self.view_is refl c.self.invariant.plus_classes in
    let m : AreClasses c.args.self.now.listed has_negative_last c.self.inside.minus.items = classes_of has_negative_last c.self.view_is refl c.self.invariant.minus_classes in
    omega (arith, pairs_count c.args.self.now.listed c.self.inside.plus.items c.self.inside.minus.items c.self.inside.ahead.norm p m, parts_small c.args.self.now.listed c.self.inside.plus.items c.self.inside.minus.items c.self.inside.ahead.norm p m s.listed_length)
