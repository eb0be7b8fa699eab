-- Rows of one norm stand together, so the classes are made group by group: those so far are the classes of the rows
-- before the place.
use Rattle.std.proofs.Common.{◌∙◌, ℕ, List, ap₂, sym, subst, arith}
use Rattle.stage_store.specs.Classes.{ClassValue, sign_test, with_class}
use Rattle.stage_store.proofs.ClassesByNorm.{AreClassesBefore, IsGroup}
use Rattle.stage_store.proofs.ClassesByNorm.{nothing_before, group_classes}
use Rattle.stage_store.proofs.rebuilding.classes_of.Goals as goal

pub loop-from-init : goal.loop-from-init
loop-from-init c =
    let listed = c.args.listed.now.rows in
    let test = sign_test c.args.side in
    subst (λ (classes : List ClassValue). AreClassesBefore listed test 0 classes)
    (sym c.new-classes.ensures.items) (nothing_before listed test)

pub loop-from-preserved : goal.loop-from-preserved
loop-from-preserved c =
    let listed = c.args.listed.now.rows in
    let test = sign_test c.args.side in
    let e = c.norm_at-norm.result in
    let to = c.waits_up_to-to.result in
    let g : IsGroup listed e c.loop-from.from to = record {
      some = omega (arith, c.loop-from-test.true, c.len.ensures);
      first = sym c.norm_at-norm.ensures.norm;
      from_to = c.waits_up_to-to.ensures.from;
      inside = c.waits_up_to-to.ensures.to;
      norms = c.waits_up_to-to.ensures.before;
      behind = c.waits_up_to-to.ensures.at;
    } in
    subst (λ (classes : List ClassValue). AreClassesBefore listed test to classes)
    (sym (c.add_class.ensures
    ∙ ap₂ (λ (n : ℕ) (classes : List ClassValue). with_class n c.in_ok-class.class.ids classes)
    c.in_ok-class.ensures.norm c.reserve.ensures.items))
    (group_classes listed e c.loop-from.from to c.requires.ascending g test
    c.loop-from.classes.items c.requires.above c.loop-from.invariant c.in_ok-class.class.ids
    c.in_ok-class.ensures.ids)
