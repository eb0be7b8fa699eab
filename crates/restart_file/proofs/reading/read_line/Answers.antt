-- The next line is one step of the reading, or its fault.
use Rattle.std.proofs.Common.{◌≡◌, subst, true, false, ℕ, List}
use Rattle.restart_file.specs.Inside.Drafts.{TakesLine, cursor_of, progress_in}
use Rattle.restart_file.proofs.LineByLine.{line_cause, line_read, line_sound, no_line_read}
use Rattle.restart_file.proofs.Remainders.{no_line, some_line}
use Rattle.restart_file.proofs.reading.read_line.Goals as goal

pub returns-then-not-branch-clause-line : goal.returns-then-not-branch-clause-line
returns-then-not-branch-clause-line g c = λ text rest t l.
    let none : c.in_ok-next_line.field-0 ≡ false = cc in
    no_line_read ℕ c.args.system.now text rest c.next_line.new.window (cursor_of c.args.draft.now) (cursor_of c.args.draft.now) c.args.l c.bad_text.result c.bad_text.ensures c.requires.due
    (no_line text c.next_line.new.window rest c.next_line.new.line.items c.in_ok-next_line.field-0 none (c.in_ok-next_line.ensures.line text rest t l))

pub returns-clause-line : goal.returns-clause-line
returns-clause-line g c = λ text rest t l.
    let some : c.in_ok-next_line.field-0 ≡ true = cc in
    line_read c.args.system.now text rest c.next_line.new.line.items c.next_line.new.window (cursor_of c.args.draft.now) (cursor_of c.take_line.new.draft) c.args.l c.take_line.result
    (some_line text c.next_line.new.window rest c.next_line.new.line.items c.in_ok-next_line.field-0 some (c.in_ok-next_line.ensures.line text rest t l))
    (subst (λ (line : List ℕ). TakesLine c.args.system.now c.args.draft.now.version c.args.draft.now.due (progress_in c.args.draft.now) line c.args.l (cursor_of c.take_line.new.draft) c.take_line.result) c.deref.ensures.value c.take_line.ensures.steps)

pub returns-clause-sound : goal.returns-clause-sound
returns-clause-sound g c = line_sound c.args.system.now c.deref.result.now (cursor_of c.args.draft.now) (cursor_of c.take_line.new.draft) c.args.l c.take_line.result c.requires.sound c.take_line.ensures.steps

pub returns-clause-cause : goal.returns-clause-cause
returns-clause-cause g c =
    line_cause c.args.system.now c.deref.result.now (cursor_of c.args.draft.now) (cursor_of c.take_line.new.draft) c.args.l c.take_line.result (g.F.Folder.faults c.args.folder.now) (g.F.Folder.faults c.next_line.new.folder)
    c.next_line.ensures.cause.later c.take_line.ensures.steps
