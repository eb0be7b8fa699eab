-- The classes of both signs are those of the listed rows, so the sum of their products is the number of the norm's
-- pairs, and at most 2^42.
use Rattle.std.proofs.Common.{sym, ◌∙◌, arith}
use Rattle.lift_core.specs.Stages.{has_positive_last, has_negative_last}
use Rattle.stage_store.specs.Classes.{AreClasses}
use Rattle.stage_store.specs.Stage.{IsStage}
use Rattle.stage_store.proofs.StageFields.{classes_of, stage_of, parts_under}
use Rattle.stage_store.proofs.Pairs.{parts_small, pairs_count}
use Rattle.stage_store.proofs.stage.Stage.count_at.Goals as goal

pub count_pairs-requires-clause-small : goal.count_pairs-requires-clause-small
count_pairs-requires-clause-small c =
    let s : IsStage c.args.self.now = stage_of c.self.view_is c.self.invariant.stage in
    let p : AreClasses c.args.self.now.listed has_positive_last c.deref.result.now = classes_of has_positive_last c.self.view_is c.deref.ensures.value c.self.invariant.plus_classes in
    let m : AreClasses c.args.self.now.listed has_negative_last c.deref-2.result.now = classes_of has_negative_last c.self.view_is c.deref-2.ensures.value c.self.invariant.minus_classes in
    parts_under c.args.self.now c.deref.result.now c.deref-2.result.now c.args.norm s p m

pub returns-clause-number : goal.returns-clause-number
returns-clause-number c =
    let p : AreClasses c.args.self.now.listed has_positive_last c.deref.result.now = classes_of has_positive_last c.self.view_is c.deref.ensures.value c.self.invariant.plus_classes in
    let m : AreClasses c.args.self.now.listed has_negative_last c.deref-2.result.now = classes_of has_negative_last c.self.view_is c.deref-2.ensures.value c.self.invariant.minus_classes in
    c.count_pairs.ensures ∙ sym (pairs_count c.args.self.now.listed c.deref.result.now c.deref-2.result.now c.args.norm p m)

pub returns-clause-most : goal.returns-clause-most
returns-clause-most c =
    let s : IsStage c.args.self.now = stage_of c.self.view_is c.self.invariant.stage in
    let p : AreClasses c.args.self.now.listed has_positive_last c.deref.result.now = classes_of has_positive_last c.self.view_is c.deref.ensures.value c.self.invariant.plus_classes in
    let m : AreClasses c.args.self.now.listed has_negative_last c.deref-2.result.now = classes_of has_negative_last c.self.view_is c.deref-2.ensures.value c.self.invariant.minus_classes in
    omega (arith, c.count_pairs.ensures, parts_small c.args.self.now.listed c.deref.result.now c.deref-2.result.now c.args.norm p m s.listed_length)
