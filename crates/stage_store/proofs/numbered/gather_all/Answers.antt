-- The rows gained so far are those of the numbers below `first`; a range more joins its own gains to them.
use Rattle.std.proofs.Common.{◌∙◌, ◌+◌, ℕ, arith, ap, subst, sym, length, []}
use Rattle.stage_store.specs.Numbered.{GainsNumbered}
use Rattle.stage_store.proofs.NumberedSums.{gains_more, written_length}
use Rattle.stage_store.proofs.numbered.gather_all.Goals as goal

pub loop-first-preserved : goal.loop-first-preserved
loop-first-preserved c =
    let s = c.args.stage.now in
    let g = c.gather.ensures in
    let v = c.loop-first.invariant in
    record {
      within = omega (arith, c.min-count.ensures, v.within);
      sum = written_length _ c.gather.new.sum c.loop-first.sum.items (g.sum ∙ c.deref_mut.ensures.len) ∙ sym c.deref_mut.ensures.len ∙ ap length c.deref_mut.ensures.value ∙ v.sum;
      width = g.width ∙ c.make_room.ensures.same.0 ∙ v.width;
      gains = gains_more s c.args.norm 0 c.loop-first.first (c.loop-first.first + c.min-count.result) [] c.loop-first.rows.rows c.gather.new.rows.rows (omega arith) (omega arith) v.gains
          (subst (λ r. GainsNumbered s c.args.norm c.loop-first.first (c.loop-first.first + c.min-count.result) r c.gather.new.rows.rows) c.make_room.ensures.same.1 g.gains);
    }

pub returns-clause-gains : goal.returns-clause-gains
returns-clause-gains c =
    subst (λ (n : ℕ). GainsNumbered c.args.stage.now c.args.norm 0 n [] c.loop-first.rows.rows) (omega (arith, c.loop-first-test.false, c.loop-first.invariant.within)) c.loop-first.invariant.gains
