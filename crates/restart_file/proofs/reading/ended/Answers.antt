-- The draft ends where the last line alone is left and the used pairs are enough; else there is a fault.
use Rattle.std.proofs.Common.{arith, rules, ◌≡◌, ◌≢◌}
use Rattle.restart_file.specs.declared.dues.Due.TheVariants.{LastLine}
use Rattle.restart_file.specs.Reading.{reads_end, reads_too_few}
use Rattle.restart_file.specs.Inside.Drafts.{cursor_of}
use Rattle.restart_file.proofs.Built.{rows_small}
use Rattle.restart_file.proofs.LineByLine.{ended_early, ended_long}
use Rattle.restart_file.proofs.reading.ended.Goals as goal

pub returns-then-ne-clause-to : goal.returns-then-ne-clause-to
returns-then-ne-clause-to c = λ bytes n none.
    let due : c.args.draft.due ≢ LastLine = search rules in
    ended_early c.args.system.now (cursor_of c.args.draft) c.args.l bytes c.bad_text.result c.bad_text.ensures due none

pub returns-then-left-ne-LAST-clause-to : goal.returns-then-left-ne-LAST-clause-to
returns-then-left-ne-LAST-clause-to c = λ bytes n none.
    let due : c.args.draft.due ≡ LastLine = search rules in
    ended_long c.args.system.now (cursor_of c.args.draft) c.args.l bytes c.bad_text-then-left-ne-LAST.result c.bad_text-then-left-ne-LAST.ensures due (λ e. omega (arith, e, n, c.if-left-ne-LAST.true))

pub pairs_within-requires-clause-small : goal.pairs_within-requires-clause-small
pairs_within-requires-clause-small c = rows_small c.args.system.now c.args.draft.number c.args.draft.listed.rows c.requires.sound.listed_rows

pub returns-then-draft-pairs_within-clause-to : goal.returns-then-draft-pairs_within-clause-to
returns-then-draft-pairs_within-clause-to c = λ bytes n none.
    let due : c.args.draft.due ≡ LastLine = search rules in
    reads_too_few due (omega (arith, n, c.if-left-ne-LAST.false)) (omega (arith, c.if-draft-pairs_within.true, c.pairs_within.ensures))

pub returns-clause-to : goal.returns-clause-to
returns-clause-to c = λ bytes n none.
    let due : c.args.draft.due ≡ LastLine = search rules in
    reads_end due (omega (arith, n, c.if-left-ne-LAST.false)) (omega (arith, c.if-draft-pairs_within.false, c.pairs_within.ensures))
