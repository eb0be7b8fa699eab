-- Tree, classes and numbers are made of the lists anew, with an empty sieve and tally: so all that holds of a stage's
-- fields holds.
use Rattle.std.proofs.Common.{sym, subst₂}
use Rattle.stage_store.proofs.Rebuilt.{AreFields, fields_hold}
use Rattle.stage_store.proofs.stage.Stage.rebuild.Goals as goal

pub invariant_of-stage-3 : goal.invariant_of-stage-3
invariant_of-stage-3 c =
    let r = c.requires in
    let pairs = c.pairs_within.result in
    let tree = c.in_ok-tree_of.field-0 in
    let plus = c.in_ok-classes_of in
    let minus = c.in_ok-classes_of-2 in
    let sieve = c.in_ok-new.field-0 in
    let tally = c.new-2 in
    subst₂
    (AreFields c.args.system c.args.number c.args.norm c.args.used pairs tree
    plus.field-0.items minus.field-0.items sieve c.unknown.result tally.result c.unknown-2.result)
    (sym c.listed.view_is) (sym c.waiting.view_is)
    (fields_hold c.args.system c.args.number c.args.norm c.args.used pairs tree
    plus.field-0.items minus.field-0.items sieve c.unknown.result tally.result c.unknown-2.result c.args.listed c.args.waiting r.kept
    r.listed_width r.waiting_width c.pairs_within.ensures r.enough c.in_ok-tree_of.ensures
    plus.ensures.classes minus.ensures.classes plus.ensures.ids minus.ensures.ids
    c.in_ok-new.ensures c.unknown.ensures tally.ensures.range tally.ensures.empty c.unknown-2.ensures)
