-- The numbers between those done and the pair's gain nothing, since none of them is open; then the pair's own gain
-- comes.
use Rattle.std.proofs.Common.{◌+◌, arith}
use Rattle.stage_store.proofs.NumberedSums.{gains_nothing, gains_more, gains_gap}
use Rattle.stage_store.proofs.numbered.take_open.Goals as goal

pub returns-then-pair-done-clause-gains : goal.returns-then-pair-done-clause-gains
returns-then-pair-done-clause-gains c = gains_nothing c.args.stage.now c.args.norm c.args.done c.args.rows.now.rows

pub returns-clause-gains : goal.returns-clause-gains
returns-clause-gains c =
    gains_more c.args.stage.now c.args.norm c.args.done c.args.pair.number (c.args.pair.number + 1) c.args.rows.now.rows c.args.rows.now.rows c.take_places.new.rows.rows (omega (arith, c.if-pair-done.false)) (omega arith)
    (gains_gap c.args.stage.now c.args.norm c.args.done c.args.pair.number c.args.rows.now.rows c.requires.none) c.take_places.ensures.gains
