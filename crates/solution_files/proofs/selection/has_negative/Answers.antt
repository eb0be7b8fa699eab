-- The search finds the negative exactly where it is among the rows.
use Rattle.std.proofs.Common.{rules, ap, ◌∙◌}
use Rattle.int_vector.specs.Vectors.{lex_cmp}
use Rattle.lift_core.specs.Inside.OrderedRows.{rows_behind}
use Rattle.solution_files.specs.Steps.{is_among}
use Rattle.solution_files.proofs.Search.{found_is_among, answers_alike}
use Rattle.solution_files.proofs.selection.has_negative.Goals as goal

pub returns : goal.returns
returns c =
    found_is_among c.args.rows.now c.in_ok-negative.negative.items c.binary_search_by.result c.is_ok.result c.is_ok.ensures.value c.requires.ascending c.binary_search_by.ensures.bound
    (c.binary_search_by.ensures.position (λ y. lex_cmp y.now c.in_ok-negative.negative.items) (answers_alike _ _ _ (λ a r f' k. search rules)))
    c.args.row
    ∙ ap (is_among (rows_behind c.args.rows.now)) c.in_ok-negative.ensures
