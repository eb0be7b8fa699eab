-- A pair's sum is left out where it has none, where it was found before, or where a listed row is below it; else it is
-- irreducible, and is what its number gains.
use Rattle.std.proofs.Common.{List, [], ◌∷◌, ◌++◌, refl, ap, ◌∙◌, arith}
use Rattle.std.specs.Prelude.{ℤ}
use Rattle.stage_store.proofs.NumberedSums.{reduced, found_before, pushed}
use Rattle.stage_store.proofs.Numbering.{pair_placed}
use Rattle.stage_store.proofs.Halves.{irreducible_by}
use Rattle.stage_store.proofs.numbered.take_places.Goals as goal

pub sum_into-requires-clause-pair : goal.sum_into-requires-clause-pair
sum_into-requires-clause-pair c = (pair_placed c.args.stage.now.listed c.args.norm c.args.p c.args.f.0 c.args.g.0 c.requires.inside c.requires.at).0

pub sum_into-requires-clause-norm : goal.sum_into-requires-clause-norm
sum_into-requires-clause-norm c = omega (arith, (pair_placed c.args.stage.now.listed c.args.norm c.args.p c.args.f.0 c.args.g.0 c.requires.inside c.requires.at).1, c.requires.small)

pub returns-then-is_reduced-clause-gains : goal.returns-then-is_reduced-clause-gains
returns-then-is_reduced-clause-gains c =
    reduced c.args.stage.now c.args.norm c.args.p c.args.f.0 c.args.g.0 c.requires.at c.args.rows.now.rows c.sum_into.new.out (c.if-not-sum_into.ensures.is refl) (c.if-is_reduced.ensures refl)

pub returns-clause-gains : goal.returns-clause-gains
returns-clause-gains c =
    pushed c.args.stage.now c.args.norm c.args.p c.args.f.0 c.args.g.0 c.requires.at c.args.rows.now.rows c.push-place.new.self.rows c.sum_into.new.out
    (c.if-not-sum_into.ensures.sum.0 refl) (c.if-not-sum_into.ensures.is refl) (irreducible_by c.args.stage.now c.args.norm c.args.halves _ _ c.sum_into.new.out c.requires.enough (pair_placed c.args.stage.now.listed c.args.norm c.args.p c.args.f.0 c.args.g.0 c.requires.inside c.requires.at).0
    (pair_placed c.args.stage.now.listed c.args.norm c.args.p c.args.f.0 c.args.g.0 c.requires.inside c.requires.at).1 (c.if-not-sum_into.ensures.sum.0 refl) (c.if-not-sum_into.ensures.is refl) c.in_default.ensures.found)
    (c.push-place.ensures.rows ∙ ap (λ (v : List ℤ). c.args.rows.now.rows ++ v ∷ []) c.find_reducer.ensures.same)

pub returns-then-is_found-clause-gains : goal.returns-then-is_found-clause-gains
returns-then-is_found-clause-gains c =
    found_before c.args.stage.now c.args.norm c.args.p c.args.f.0 c.args.g.0 c.requires.at c.args.rows.now.rows c.sum_into.new.out (c.if-not-sum_into.ensures.is refl) (c.if-is_found.ensures refl)
