-- What the tally notes at a norm is the number of the pairs by the classes, and so that of the norm.
use Rattle.std.proofs.Common.{arith, refl}
use Rattle.lift_core.specs.Stages.{has_positive_last, has_negative_last}
use Rattle.stage_store.specs.Classes.{AreClasses}
use Rattle.stage_store.specs.Stage.{IsStage}
use Rattle.stage_store.proofs.StageFields.{classes_of, stage_of}
use Rattle.stage_store.proofs.Pairs.{parts_small, pairs_count}
use Rattle.stage_store.proofs.Tallies.{noted_pairs}
use Rattle.stage_store.proofs.stage.Stage.pairs_at.Goals as goal

pub returns-in-Some-clause-number : goal.returns-in-Some-clause-number
returns-in-Some-clause-number c =
    let p : AreClasses c.args.self.now.listed has_positive_last c.self.inside.plus.items = classes_of has_positive_last c.self.view_is refl c.self.invariant.plus_classes in
    let m : AreClasses c.args.self.now.listed has_negative_last c.self.inside.minus.items = classes_of has_negative_last c.self.view_is refl c.self.invariant.minus_classes in
    noted_pairs c.args.self.now.listed c.self.inside.plus.items c.self.inside.minus.items p m c.self.inside.tally c.self.invariant.tally_is c.args.norm c.in-Some.pairs c.in-Some.ensures

pub returns-in-Some-clause-most : goal.returns-in-Some-clause-most
returns-in-Some-clause-most c =
    let s : IsStage c.args.self.now = stage_of c.self.view_is c.self.invariant.stage in
    let p : AreClasses c.args.self.now.listed has_positive_last c.self.inside.plus.items = classes_of has_positive_last c.self.view_is refl c.self.invariant.plus_classes in
    let m : AreClasses c.args.self.now.listed has_negative_last c.self.inside.minus.items = classes_of has_negative_last c.self.view_is refl c.self.invariant.minus_classes in
    omega (arith, returns-in-Some-clause-number c, pairs_count c.args.self.now.listed c.self.inside.plus.items c.self.inside.minus.items c.args.norm p m, parts_small c.args.self.now.listed c.self.inside.plus.items c.self.inside.minus.items c.args.norm p m s.listed_length)
