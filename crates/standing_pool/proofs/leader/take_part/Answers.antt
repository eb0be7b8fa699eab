use Rattle.std.proofs.Common.{refl, ap, List}
use Rattle.std.specs.Prelude.{ℤ}
use Rattle.standing_pool.proofs.PartSums.{gains_list}
use Rattle.standing_pool.specs.Parts.{IsPartList}
use Rattle.std.proofs.Common.{subst, sym}
use Rattle.standing_pool.proofs.leader.take_part.Goals as goal

pub returns-then-fits-clause-gains : goal.returns-then-fits-clause-gains
returns-then-fits-clause-gains c =
    gains_list c.args.stage.now c.args.norm c.args.part c.args.parts c.args.rows.now.rows c.rows.result.now.rows c.append.new.rows.rows
    (subst (λ (l : List (List ℤ)). IsPartList c.args.stage.now.system.equations c.args.stage.now.listed c.args.norm c.args.part c.args.parts l) (ap (λ p. p.rows) (sym c.rows.ensures)) (c.if-fits.ensures refl).rows_are)
    c.in_ok-append.ensures.rows

pub returns-clause-gains : goal.returns-clause-gains
returns-clause-gains c =
    gains_list c.args.stage.now c.args.norm c.args.part c.args.parts c.args.rows.now.rows c.in_ok-sums.sums.rows c.append-2.new.rows.rows c.in_ok-sums.ensures.rows c.in_ok-append-2.ensures.rows
