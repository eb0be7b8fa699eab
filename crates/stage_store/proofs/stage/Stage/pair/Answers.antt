-- The p-th pair by the classes is the p-th of the norm, and its rows have opposite last entries and norms that add up.
use Rattle.std.proofs.Common.{arith}
use Rattle.lift_core.specs.Stages.{has_positive_last, has_negative_last}
use Rattle.stage_store.specs.Classes.{AreClasses}
use Rattle.stage_store.specs.Stage.{IsStage}
use Rattle.stage_store.proofs.StageFields.{classes_of, stage_of, parts_under}
use Rattle.stage_store.proofs.Pairs.{pairs_count, ids_of-length, pair_found}
use Rattle.stage_store.proofs.Numbering.{pair_placed}
use Rattle.stage_store.proofs.stage.Stage.pair.Goals as goal

pub find_pair-f-requires-clause-small : goal.find_pair-f-requires-clause-small
find_pair-f-requires-clause-small c =
    let s : IsStage c.args.self.now = stage_of c.self.view_is c.self.invariant.stage in
    let p : AreClasses c.args.self.now.listed has_positive_last c.deref.result.now = classes_of has_positive_last c.self.view_is c.deref.ensures.value c.self.invariant.plus_classes in
    let m : AreClasses c.args.self.now.listed has_negative_last c.deref-2.result.now = classes_of has_negative_last c.self.view_is c.deref-2.ensures.value c.self.invariant.minus_classes in
    parts_under c.args.self.now c.deref.result.now c.deref-2.result.now c.args.norm s p m

pub find_pair-f-requires-clause-inside : goal.find_pair-f-requires-clause-inside
find_pair-f-requires-clause-inside c =
    let p : AreClasses c.args.self.now.listed has_positive_last c.deref.result.now = classes_of has_positive_last c.self.view_is c.deref.ensures.value c.self.invariant.plus_classes in
    let m : AreClasses c.args.self.now.listed has_negative_last c.deref-2.result.now = classes_of has_negative_last c.self.view_is c.deref-2.ensures.value c.self.invariant.minus_classes in
    omega (arith, c.requires, pairs_count c.args.self.now.listed c.deref.result.now c.deref-2.result.now c.args.norm p m, ids_of-length c.deref.result.now c.deref-2.result.now c.args.norm)

pub returns-clause-place : goal.returns-clause-place
returns-clause-place c =
    let p : AreClasses c.args.self.now.listed has_positive_last c.deref.result.now = classes_of has_positive_last c.self.view_is c.deref.ensures.value c.self.invariant.plus_classes in
    let m : AreClasses c.args.self.now.listed has_negative_last c.deref-2.result.now = classes_of has_negative_last c.self.view_is c.deref-2.ensures.value c.self.invariant.minus_classes in
    pair_found c.args.self.now.listed c.deref.result.now c.deref-2.result.now c.args.norm c.args.p c.find_pair-f.result p m c.requires c.find_pair-f.ensures

pub returns-clause-pair : goal.returns-clause-pair
returns-clause-pair c =
    let p : AreClasses c.args.self.now.listed has_positive_last c.deref.result.now = classes_of has_positive_last c.self.view_is c.deref.ensures.value c.self.invariant.plus_classes in
    let m : AreClasses c.args.self.now.listed has_negative_last c.deref-2.result.now = classes_of has_negative_last c.self.view_is c.deref-2.ensures.value c.self.invariant.minus_classes in
    (pair_placed c.args.self.now.listed c.args.norm c.args.p c.find_pair-f.result.0 c.find_pair-f.result.1 c.requires
    (pair_found c.args.self.now.listed c.deref.result.now c.deref-2.result.now c.args.norm c.args.p c.find_pair-f.result p m c.requires c.find_pair-f.ensures)).0

pub returns-clause-norm : goal.returns-clause-norm
returns-clause-norm c =
    let p : AreClasses c.args.self.now.listed has_positive_last c.deref.result.now = classes_of has_positive_last c.self.view_is c.deref.ensures.value c.self.invariant.plus_classes in
    let m : AreClasses c.args.self.now.listed has_negative_last c.deref-2.result.now = classes_of has_negative_last c.self.view_is c.deref-2.ensures.value c.self.invariant.minus_classes in
    (pair_placed c.args.self.now.listed c.args.norm c.args.p c.find_pair-f.result.0 c.find_pair-f.result.1 c.requires
    (pair_found c.args.self.now.listed c.deref.result.now c.deref-2.result.now c.args.norm c.args.p c.find_pair-f.result p m c.requires c.find_pair-f.ensures)).1
