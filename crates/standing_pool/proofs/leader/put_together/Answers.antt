use Rattle.std.proofs.Common.{refl, ◌∙◌}
use Rattle.standing_pool.proofs.PartSums.{all_parts}
use Rattle.standing_pool.proofs.leader.put_together.Goals as goal

pub returns-clause-closed : goal.returns-clause-closed
returns-clause-closed c = record {
  next = c.requires.next;
  small = c.requires.small;
  closed = record {
    norm_is = refl;
    width_is = c.in_ok-in_order.ensures.width ∙ c.in_ok-rows.ensures.width;
    sums = all_parts c.args.stage.now c.args.norm c.args.workers c.in_ok-rows.rows.rows c.new-none.result.rows c.in_ok-in_order.field-0.rows c.requires.some c.keeps.ensures c.requires.next c.requires.small c.in_ok-rows.ensures.rows c.new-none.ensures.1 c.in_ok-in_order.ensures.rows;
  };
}
