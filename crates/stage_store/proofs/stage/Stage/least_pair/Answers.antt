-- The next norm with counted pairs is the least, or the classes tell it: all their norms are at most the stage's.
use Rattle.std.proofs.Common.{ℕ, ◌≡◌, arith, ap, subst, refl}
use Rattle.std.specs.Prelude.{Some}
use Rattle.lift_core.specs.Stages.{has_positive_last, has_negative_last}
use Rattle.stage_store.specs.Classes.{AreClasses}
use Rattle.stage_store.specs.Stage.{IsStage, norm_of}
use Rattle.stage_store.specs.Least.{IsLeastAbove}
use Rattle.stage_store.specs.Answers.{HasStagePair}
use Rattle.stage_store.proofs.StageFields.{classes_of, stage_of, norms_within, least_of_classes}
use Rattle.stage_store.proofs.Tallies.{next_noted}
use Rattle.stage_store.proofs.stage.Stage.least_pair.Goals as goal

pub pair_norm_above-requires-clause-plus : goal.pair_norm_above-requires-clause-plus
pair_norm_above-requires-clause-plus c =
    let s : IsStage c.args.self.now = stage_of c.self.view_is c.self.invariant.stage in
    let p : AreClasses c.args.self.now.listed has_positive_last c.deref.result.now = classes_of has_positive_last c.self.view_is c.deref.ensures.value c.self.invariant.plus_classes in
    let n : c.self.inside.norm ≡ c.args.self.now.norm = ap norm_of c.self.view_is in
    λ k l. omega (arith, n, norms_within c.args.self.now.listed has_positive_last c.deref.result.now c.args.self.now.norm p s.listed_norms k l)

pub pair_norm_above-requires-clause-minus : goal.pair_norm_above-requires-clause-minus
pair_norm_above-requires-clause-minus c =
    let s : IsStage c.args.self.now = stage_of c.self.view_is c.self.invariant.stage in
    let m : AreClasses c.args.self.now.listed has_negative_last c.deref-in-None.result.now = classes_of has_negative_last c.self.view_is c.deref-in-None.ensures.value c.self.invariant.minus_classes in
    let n : c.self.inside.norm ≡ c.args.self.now.norm = ap norm_of c.self.view_is in
    λ k l. omega (arith, n, norms_within c.args.self.now.listed has_negative_last c.deref-in-None.result.now c.args.self.now.norm m s.listed_norms k l)

pub returns-in-None : goal.returns-in-None
returns-in-None c =
    let p : AreClasses c.args.self.now.listed has_positive_last c.deref.result.now = classes_of has_positive_last c.self.view_is c.deref.ensures.value c.self.invariant.plus_classes in
    let m : AreClasses c.args.self.now.listed has_negative_last c.deref-in-None.result.now = classes_of has_negative_last c.self.view_is c.deref-in-None.ensures.value c.self.invariant.minus_classes in
    subst (λ (d : ℕ). IsLeastAbove (HasStagePair c.args.self.now.listed) d c.pair_norm_above.result) (ap norm_of c.self.view_is)
    (least_of_classes c.args.self.now.listed c.deref.result.now c.deref-in-None.result.now p m c.self.inside.norm c.pair_norm_above.result c.pair_norm_above.ensures)

pub returns-in-Some : goal.returns-in-Some
returns-in-Some c =
    let p : AreClasses c.args.self.now.listed has_positive_last c.self.inside.plus.items = classes_of has_positive_last c.self.view_is refl c.self.invariant.plus_classes in
    let m : AreClasses c.args.self.now.listed has_negative_last c.self.inside.minus.items = classes_of has_negative_last c.self.view_is refl c.self.invariant.minus_classes in
    subst (λ (d : ℕ). IsLeastAbove (HasStagePair c.args.self.now.listed) d (Some c.in-Some.norm)) (ap norm_of c.self.view_is)
    (next_noted c.args.self.now.listed c.self.inside.plus.items c.self.inside.minus.items p m c.self.inside.tally c.self.invariant.tally_is c.self.inside.norm c.in-Some.norm c.in-Some.ensures)
