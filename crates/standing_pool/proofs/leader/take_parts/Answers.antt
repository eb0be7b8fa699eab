use Rattle.std.proofs.Common.{◌∙◌, ℕ, arith, subst}
use Rattle.standing_pool.specs.Inside.Gathered.{AreParts}
use Rattle.standing_pool.proofs.PartSums.{one_part_more}
use Rattle.standing_pool.proofs.leader.take_parts.Goals as goal

pub loop-i-preserved : goal.loop-i-preserved
loop-i-preserved c = record {
  width = c.in_ok-take_part.ensures.width ∙ c.loop-i.invariant.width;
  parts = one_part_more c.args.stage.now c.args.norm c.args.workers c.loop-i.i c.loop-i.rows.rows c.take_part.new.rows.rows c.loop-i.invariant.parts c.in_ok-take_part.ensures.gains;
}

pub returns-clause-rows : goal.returns-clause-rows
returns-clause-rows c =
    subst (λ (n : ℕ). AreParts c.args.stage.now c.args.norm c.args.workers n c.loop-i.rows.rows) (omega (arith, c.loop-i-test.false, c.loop-i.auto.i-end)) c.loop-i.invariant.parts
