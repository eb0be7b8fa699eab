-- The slack columns that were counted are those of the system.
use Rattle.std.proofs.Common.{ap, ◌∙◌}
use Rattle.system_shape.specs.Shape.{given_relations}
use Rattle.system_shape.specs.Inside.Cells.{slack_total}
use Rattle.system_shape.proofs.Building.{signs_are, caps_are}
use Rattle.system_shape.proofs.shaping.accepted_system.Goals as goal

pub assemble-requires-clause-signs : goal.assemble-requires-clause-signs
assemble-requires-clause-signs c =
    signs_are c.args.tool c.args.input.now c.requires c.mat.inside.cols c.slack_columns-slacks.result c.in_ok-relations.relations.items c.in_ok-signs.signs.items (ap (λ m. m.cols) c.mat.view_is)
    (c.in_ok-relations.ensures ∙ ap (λ m. given_relations m.rows c.args.input.now.rel) c.mat.view_is)
    (c.slack_columns-slacks.ensures ∙ ap slack_total c.deref.ensures.value) c.in_ok-signs.ensures

pub assemble-requires-clause-caps : goal.assemble-requires-clause-caps
assemble-requires-clause-caps c =
    caps_are c.args.tool c.args.input.now c.requires c.mat.inside.cols c.slack_columns-slacks.result c.in_ok-relations.relations.items c.in_ok-caps.caps.items (ap (λ m. m.cols) c.mat.view_is)
    (c.in_ok-relations.ensures ∙ ap (λ m. given_relations m.rows c.args.input.now.rel) c.mat.view_is)
    (c.slack_columns-slacks.ensures ∙ ap slack_total c.deref.ensures.value) c.in_ok-caps.ensures
