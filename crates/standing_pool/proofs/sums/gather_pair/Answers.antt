use Rattle.std.proofs.Common.{◌+◌, List, subst}
use Rattle.std.specs.Prelude.{ℤ}
use Rattle.stage_store.specs.Numbered.{GainsNumbered}
use Rattle.standing_pool.proofs.PartSums.{part_pair, other_pair}
use Rattle.standing_pool.proofs.sums.gather_pair.Goals as goal

pub returns-then-place-parts-clause-gains : goal.returns-then-place-parts-clause-gains
returns-then-place-parts-clause-gains c =
    other_pair c.args.stage.now c.args.norm c.args.part c.args.parts c.args.place.0 c.args.number c.requires.inside c.requires.first c.args.rows.now.rows c.keeps.ensures c.if-place-parts.true

pub returns-clause-gains : goal.returns-clause-gains
returns-clause-gains c =
    part_pair c.args.stage.now c.args.norm c.args.part c.args.parts c.args.place.0 c.args.number c.requires.inside c.requires.first c.args.rows.now.rows c.gather.new.rows.rows c.if-place-parts.false
    (subst (λ (r : List (List ℤ)). GainsNumbered c.args.stage.now c.args.norm c.args.number (c.args.number + 1) r c.gather.new.rows.rows) c.in_ok-make_room.ensures.same.1 c.gather.ensures.gains)
