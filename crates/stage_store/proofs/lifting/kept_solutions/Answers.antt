-- A row with last entry 0 adds its front to the solutions among the rows so far; any other adds none.
use Rattle.std.proofs.Common.{◌≡◌, ◌∙◌, sym, ap, arith, ◌+◌, ◌-◌, length}
use Rattle.row_pool.specs.Rows.{PoolValue}
use Rattle.stage_store.proofs.FirstRows.{kept_more, kept_less}
use Rattle.stage_store.proofs.lifting.kept_solutions.Goals as goal
use Rattle.stage_store.proofs.lifting.kept_solutions.Goals.{then-is_zero_last, else-is_zero_last}

pub loop-i-preserved : goal.loop-i-preserved
loop-i-preserved c =
    let n : length c.row-row.result.now ≡ (c.width-width.result - 1) + 1 = omega (arith, c.row-row.ensures.width, c.width-width.ensures, c.requires.some) in
    elim c.if-is_zero_last.branch [
      | then-is_zero_last w ↦ record {
        width = ap (λ (p : PoolValue). p.width) w.kept-is ∙ w.push.ensures.width ∙ c.loop-i.invariant.width;
        room = omega (arith, ap (λ (p : PoolValue). p.spare) w.kept-is, w.push.ensures.spare, c.loop-i.invariant.room);
        rows = ap (λ (p : PoolValue). p.rows) w.kept-is ∙ kept_more c.args.listed.now.rows c.loop-i.kept.rows c.row-row.result.now c.loop-i.i (c.width-width.result - 1) (omega (arith, c.loop-i-test.true, c.len-i-end.ensures)) c.row-row.ensures.row n c.loop-i.invariant.rows w.push.new.self.rows (sym c.is_zero_last.ensures ∙ w.if-is_zero_last.true) w.push.ensures.rows;
      }
      | else-is_zero_last w ↦ record {
        width = ap (λ (p : PoolValue). p.width) w.kept-is ∙ c.loop-i.invariant.width;
        room = omega (arith, ap (λ (p : PoolValue). p.spare) w.kept-is, c.loop-i.invariant.room);
        rows = ap (λ (p : PoolValue). p.rows) w.kept-is ∙ kept_less c.args.listed.now.rows c.loop-i.kept.rows c.row-row.result.now c.loop-i.i (c.width-width.result - 1) (omega (arith, c.loop-i-test.true, c.len-i-end.ensures)) c.row-row.ensures.row n c.loop-i.invariant.rows (sym c.is_zero_last.ensures ∙ w.if-is_zero_last.false);
      }
    ]
