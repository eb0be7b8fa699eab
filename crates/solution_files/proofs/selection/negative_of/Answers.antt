-- One entry more is negated.
use Rattle.std.proofs.Common.{rules, ◌≡◌, ◌+◌, ◌++◌, [], ◌∷◌, pos, get_or, refl, ap, ◌∙◌, drop, SFits, w64, to_z-of_z}
use Rattle.std.specs.Prelude.{neg_ℤ}
use Rattle.int_vector.specs.Range.{InRange}
use Rattle.int_vector.specs.Vectors.{negated}
use Rattle.solution_files.proofs.SelectedRows.{one_more_negated, each_at}
use Rattle.solution_files.proofs.selection.negative_of.Goals as goal

pub negative_entry-requires : goal.negative_entry-requires
negative_entry-requires c =
    let fits : SFits w64 (get_or c.args.row.now c.loop-entry.entry-index (pos 0)) = search rules in
    simp to_z-of_z (each_at InRange c.args.row.now c.loop-entry.entry-index (pos 0) c.loop-entry-test.true c.requires)

pub loop-entry-preserved : goal.loop-entry-preserved
loop-entry-preserved c =
    let fits : SFits w64 (get_or c.args.row.now c.loop-entry.entry-index (pos 0)) = search rules in
    let back : SFits w64 c.negative_entry.result = search rules in
    let pushed : c.push.new.self.items ≡ c.loop-entry.negative.items ++ c.negative_entry.result ∷ [] = simp to_z-of_z at c.in_ok-push.ensures.items in
    let negative : c.negative_entry.result ≡ neg_ℤ (get_or c.args.row.now c.loop-entry.entry-index (pos 0)) = simp to_z-of_z at c.negative_entry.ensures in
    ap (λ u. u ++ negated (drop (c.loop-entry.entry-index + 1) c.args.row.now)) (pushed ∙ ap (λ y. c.loop-entry.negative.items ++ y ∷ []) negative)
    ∙ one_more_negated c.args.row.now c.loop-entry.entry-index (get_or c.args.row.now c.loop-entry.entry-index (pos 0)) (pos 0) c.loop-entry.negative.items (negated c.args.row.now) c.loop-entry-test.true refl c.loop-entry.invariant
