use Rattle.std.proofs.Common.{◌∙◌, ◌+◌, arith, ap, sym, length, []}
use Rattle.stage_store.specs.Classes.{pairs_of}
use Rattle.stage_store.proofs.NumberedSums.{written_length}
use Rattle.standing_pool.proofs.PartSums.{part_more, part_gap}
use Rattle.standing_pool.proofs.sums.gather_part.Goals as goal

pub loop-number-preserved : goal.loop-number-preserved
loop-number-preserved c =
    let s = c.args.stage.now in
    let g = c.in_ok-gather_pair.ensures in
    let v = c.loop-number.invariant in
    let n = c.in-Some.ensures in
    record {
      within = omega (arith, n.below);
      sum = written_length _ c.gather_pair.new.sum c.loop-number.sum.items (g.sum ∙ c.deref_mut.ensures.len) ∙ sym c.deref_mut.ensures.len ∙ ap length c.deref_mut.ensures.value ∙ v.sum;
      width = g.width ∙ v.width;
      gains = part_more s c.args.norm c.args.part c.args.parts 0 c.in-Some.number (c.in-Some.number + 1) [] c.loop-number.rows.rows c.gather_pair.new.rows.rows (omega arith) (omega arith)
          (part_more s c.args.norm c.args.part c.args.parts 0 c.loop-number.first c.in-Some.number [] c.loop-number.rows.rows c.loop-number.rows.rows (omega arith) n.at_least v.gains (part_gap s c.args.norm c.args.part c.args.parts c.loop-number.first c.in-Some.number c.loop-number.rows.rows n.none))
          g.gains;
    }

pub returns-clause-gains : goal.returns-clause-gains
returns-clause-gains c =
    let s = c.args.stage.now in
    let v = c.loop-number.invariant in
    part_more s c.args.norm c.args.part c.args.parts 0 c.loop-number.first (length (pairs_of s.listed c.args.norm)) [] c.loop-number.rows.rows c.loop-number.rows.rows (omega arith) v.within v.gains
    (part_gap s c.args.norm c.args.part c.args.parts c.loop-number.first (length (pairs_of s.listed c.args.norm)) c.loop-number.rows.rows c.in_default.ensures)
