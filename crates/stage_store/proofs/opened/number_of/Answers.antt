-- The number of a pair is the number of the first pair of its class and its place within the class; where either row is
-- in no class of that norm, the pair has none.
use Rattle.std.proofs.Common.{ℕ, List, ap, sym, refl, ◌∙◌, ◌≡◌, ◌-◌, subst, get_or}
use Rattle.stage_store.specs.Classes.{ids_at}
use Rattle.stage_store.specs.Opened.{AreAscending}
use Rattle.stage_store.proofs.Classes.{class_at, class_ids}
use Rattle.stage_store.proofs.Opening.{ids_at_ascend, number_found, number_missed, match_both, no_class}
use Rattle.stage_store.proofs.opened.number_of.Goals as goal

pub number_in-requires-clause-seconds : goal.number_in-requires-clause-seconds
number_in-requires-clause-seconds c = subst (λ (l : List ℕ). AreAscending l) (sym c.ids_of_norm-seconds.ensures) (ids_at_ascend c.args.minus.now c.saturating_sub.result c.requires.minus c.requires.minus_ids)

pub returns-in-Some : goal.returns-in-Some
returns-in-Some c =
    let k : ℕ = c.in-Some.place in
    let cl = c.in-Some.ensures in
    let at : c.ids.result.now ≡ (get_or c.args.plus.now c.in-Some.place no_class).ids = c.ids.ensures ∙ ap class_ids (class_at c.args.plus.now c.in-Some.place c.index-plus-place.result cl.inside c.index-plus-place.is) in
    let seconds : c.ids_of_norm-seconds.result.now ≡ ids_at c.args.minus.now (c.args.e - c.args.norm) = c.ids_of_norm-seconds.ensures ∙ ap (ids_at c.args.minus.now) c.saturating_sub.ensures in
    match_both c.number_in.result
    (number_missed c.args.plus.now c.args.minus.now c.args.e c.args.norm c.in-Some.place c.args.first c.args.second c.ids.result.now c.ids_of_norm-seconds.result.now c.requires.plus cl at seconds)
    (λ p h. number_found c.args.plus.now c.args.minus.now c.args.e c.args.norm c.in-Some.place c.args.first c.args.second _ p c.ids.result.now c.ids_of_norm-seconds.result.now c.args.starts.now c.requires.starts cl at seconds refl h)
    c.number_in.ensures
