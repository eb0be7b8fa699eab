-- The gains of the numbers so far and that of the next one are the gains of one number more.
use Rattle.std.proofs.Common.{◌≡◌, ℕ, ◌+◌, ◌∙◌, arith, subst}
use Rattle.stage_store.specs.Numbered.{GainsNumbered}
use Rattle.stage_store.proofs.NumberedSums.{gains_more}
use Rattle.stage_store.proofs.numbered.take_range.Goals as goal

pub loop-k-preserved : goal.loop-k-preserved
loop-k-preserved c =
    let v = c.loop-k.invariant in
    let t = c.take_pair.ensures in
    let s = c.args.stage.now in
    let more = gains_more s c.args.norm c.args.first (c.args.first + c.loop-k.k) (c.args.first + c.loop-k.k + 1) c.args.rows.now.rows c.loop-k.rows.rows c.take_pair.new.rows.rows (omega arith) (omega arith) v.gains t.gains in
    let e : c.args.first + c.loop-k.k + 1 ≡ c.args.first + (c.loop-k.k + 1) = omega arith in
    record {
      sum = t.sum ∙ v.sum;
      width = t.width ∙ v.width;
      kept = omega (arith, v.kept, t.kept);
      room = omega (arith, v.room, t.spare);
      gains = subst (λ (n : ℕ). GainsNumbered s c.args.norm c.args.first n c.args.rows.now.rows c.take_pair.new.rows.rows) e more;
    }

pub returns-clause-gains : goal.returns-clause-gains
returns-clause-gains c =
    let e : c.args.first + c.loop-k.k ≡ c.args.first + c.args.count = omega (arith, c.loop-k.auto.k-end, c.loop-k-test.false) in
    subst (λ (n : ℕ). GainsNumbered c.args.stage.now c.args.norm c.args.first n c.args.rows.now.rows c.loop-k.rows.rows) e c.loop-k.invariant.gains
