-- Open pairs are in order of their numbers, and only they have irreducible sums: so the numbers between one and the
-- next gain nothing, and at the end neither do those up to the last of the range.
use Rattle.std.proofs.Common.{◌+◌, ◌<◌, ◌∙◌, length, arith, inl, inr}
use Rattle.stage_store.proofs.NumberedSums.{gains_more, gains_gap, gap_before, gap_at, before_more, open_at, same_open}
use Rattle.stage_store.proofs.numbered.take_opened.Goals as goal

pub take_open-done-requires-clause-none : goal.take_open-done-requires-clause-none
take_open-done-requires-clause-none c =
    let l : c.loop-k.k < length c.args.opened.now.pairs.items = omega (arith, c.loop-k-test.true, c.len.ensures) in
    gap_at c.args.stage.now c.args.opened.now.norm c.args.opened.now.pairs.items c.loop-k.k c.loop-k.done c.index-in-loop-k.result.now.number c.index-in-loop-k.result.now c.requires.opens l c.index-in-loop-k.ensures (omega arith)
    (omega (arith, (open_at c.args.stage.now c.args.opened.now.norm c.args.opened.now.pairs.items c.loop-k.k c.index-in-loop-k.result.now c.requires.opens l c.index-in-loop-k.ensures).0)) c.loop-k.invariant.before

pub take_open-done-requires-clause-room : goal.take_open-done-requires-clause-room
take_open-done-requires-clause-room c = λ later.
    let l : c.loop-k.k < length c.args.opened.now.pairs.items = omega (arith, c.loop-k-test.true, c.len.ensures) in
    omega (arith, later, c.if-index-to.true, c.loop-k.invariant.room, same_open c.args.opened.now.pairs.items c.loop-k.k c.index-in-loop-k.result.now c.index.result.now l c.index-in-loop-k.ensures c.index.ensures)

pub loop-k-preserved : goal.loop-k-preserved
loop-k-preserved c =
    let l : c.loop-k.k < length c.args.opened.now.pairs.items = omega (arith, c.loop-k-test.true, c.len.ensures) in
    let v = c.loop-k.invariant in
    let t = c.take_open-done.ensures in
    record {
      within = omega (arith, l);
      from = omega (arith, v.from, t.from);
      to = elim t.to [
        | inl e ↦ omega (arith, e, v.to)
        | inr e ↦ omega (arith, e, c.if-index-to.true, same_open c.args.opened.now.pairs.items c.loop-k.k c.index-in-loop-k.result.now c.index.result.now l c.index-in-loop-k.ensures c.index.ensures)
      ];
      sum = t.sum ∙ v.sum;
      width = t.width ∙ v.width;
      kept = omega (arith, v.kept, t.kept);
      room = omega (arith, v.room, t.spare);
      before = before_more c.args.opened.now.pairs.items c.loop-k.k c.loop-k.done c.take_open-done.result c.index-in-loop-k.result.now l c.index-in-loop-k.ensures v.before t.from t.behind;
      gains = gains_more c.args.stage.now c.args.opened.now.norm c.args.first c.loop-k.done c.take_open-done.result c.args.rows.now.rows c.loop-k.rows.rows c.take_open-done.new.rows.rows v.from t.from v.gains t.gains;
    }

pub returns-else-index-to-clause-gains : goal.returns-else-index-to-clause-gains
returns-else-index-to-clause-gains c =
    let l : c.loop-k.k < length c.args.opened.now.pairs.items = omega (arith, c.loop-k-test.true, c.len.ensures) in
    let v = c.loop-k.invariant in
    gains_more c.args.stage.now c.args.opened.now.norm c.args.first c.loop-k.done (c.args.first + c.args.count) c.args.rows.now.rows c.loop-k.rows.rows c.loop-k.rows.rows v.from v.to v.gains
    (gains_gap c.args.stage.now c.args.opened.now.norm c.loop-k.done (c.args.first + c.args.count) c.loop-k.rows.rows
    (gap_at c.args.stage.now c.args.opened.now.norm c.args.opened.now.pairs.items c.loop-k.k c.loop-k.done (c.args.first + c.args.count) c.index.result.now c.requires.opens l c.index.ensures c.if-index-to.false c.requires.inside v.before))

pub returns-after-loop-k-clause-gains : goal.returns-after-loop-k-clause-gains
returns-after-loop-k-clause-gains c =
    let v = c.loop-k.invariant in
    gains_more c.args.stage.now c.args.opened.now.norm c.args.first c.loop-k.done (c.args.first + c.args.count) c.args.rows.now.rows c.loop-k.rows.rows c.loop-k.rows.rows v.from v.to v.gains
    (gains_gap c.args.stage.now c.args.opened.now.norm c.loop-k.done (c.args.first + c.args.count) c.loop-k.rows.rows
    (gap_before c.args.stage.now c.args.opened.now.norm c.args.opened.now.pairs.items c.loop-k.k c.loop-k.done (c.args.first + c.args.count) c.requires.opens c.requires.inside v.before (λ d m. omega (arith, c.loop-k-test.false, c.len.ensures, m))))
