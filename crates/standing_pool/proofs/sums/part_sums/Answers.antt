use Rattle.std.proofs.Common.{refl}
use Rattle.standing_pool.proofs.PartSums.{part_list}
use Rattle.standing_pool.proofs.sums.part_sums.Goals as goal

pub returns-clause-rows : goal.returns-clause-rows
returns-clause-rows c =
    part_list c.args.stage.now c.args.norm c.args.part c.args.parts _ c.in_ok-rows.rows.rows c.new-none.result.rows c.in_ok-sums.sums.rows c.keeps.ensures c.requires.next c.requires.small refl c.in_ok-rows.ensures.gains c.new-none.ensures.1 c.in_ok-sums.ensures.rows
