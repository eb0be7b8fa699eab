-- One byte more is taken, the line ends, or the file ends before it.
use Rattle.std.proofs.Common.{arith, ◌∙◌, drop}
use Rattle.restart_file.specs.Inside.Windows.{TellsText}
use Rattle.restart_file.proofs.Remainders.{no_byte, no_line_left, no_line_yet, plain_more, some_byte, taken_line, taken_more, tells_same}
use Rattle.restart_file.proofs.pulling.next_line.Goals as goal

pub returns-in_default-clause-line : goal.returns-in_default-clause-line
returns-in_default-clause-line g c = λ text rest t l.
    let taken = c.loop-i.invariant.taken text rest t l in
    let now : TellsText (g.F.Folder.held c.loop-i.folder) c.args.name.now text = tells_same (g.F.Folder.held c.args.folder.now) (g.F.Folder.held c.loop-i.folder) c.args.name.now text c.loop-i.invariant.same t in
    no_line_left text rest c.loop-i.window c.loop-i.line.items c.loop-i._i taken c.loop-i.invariant.plain
    (no_byte text c.next_byte.new.window (drop c.loop-i._i rest) c.in_ok-byte.field-0 c.in_default.is (c.in_ok-byte.ensures.byte text (drop c.loop-i._i rest) now taken.left))

pub returns-then-byte-eq10-clause-line : goal.returns-then-byte-eq10-clause-line
returns-then-byte-eq10-clause-line g c = λ text rest t l.
    let taken = c.loop-i.invariant.taken text rest t l in
    let now : TellsText (g.F.Folder.held c.loop-i.folder) c.args.name.now text = tells_same (g.F.Folder.held c.args.folder.now) (g.F.Folder.held c.loop-i.folder) c.args.name.now text c.loop-i.invariant.same t in
    taken_line text rest c.loop-i.window c.next_byte.new.window c.loop-i.line.items c.extend_from_slice.new.self.items c.loop-i._i c.in-Some.byte taken
    (some_byte text c.next_byte.new.window (drop c.loop-i._i rest) c.in_ok-byte.field-0 c.in-Some.byte c.in-Some.is (c.in_ok-byte.ensures.byte text (drop c.loop-i._i rest) now taken.left)) c.in_ok-extend_from_slice.ensures.items
    c.loop-i.invariant.plain c.if-byte-eq10.true (omega (arith, c.loop-i-test.true))

pub loop-i-preserved : goal.loop-i-preserved
loop-i-preserved g c = record {
  same = c.next_byte.ensures.same ∙ c.loop-i.invariant.same;
  later = omega (arith, c.loop-i.invariant.later, c.next_byte.ensures.cause.later);
  taken = λ text rest t l.
      let taken = c.loop-i.invariant.taken text rest t l in
      let now : TellsText (g.F.Folder.held c.loop-i.folder) c.args.name.now text = tells_same (g.F.Folder.held c.args.folder.now) (g.F.Folder.held c.loop-i.folder) c.args.name.now text c.loop-i.invariant.same t in
      taken_more text rest c.loop-i.window c.next_byte.new.window c.loop-i.line.items c.extend_from_slice.new.self.items c.loop-i._i c.in-Some.byte taken
      (some_byte text c.next_byte.new.window (drop c.loop-i._i rest) c.in_ok-byte.field-0 c.in-Some.byte c.in-Some.is (c.in_ok-byte.ensures.byte text (drop c.loop-i._i rest) now taken.left)) c.in_ok-extend_from_slice.ensures.items;
  plain = plain_more c.loop-i.line.items c.extend_from_slice.new.self.items c.in-Some.byte c.loop-i.invariant.plain c.in_ok-extend_from_slice.ensures.items c.if-byte-eq10.false;
}

pub returns-clause-line : goal.returns-clause-line
returns-clause-line g c = λ text rest t l. no_line_yet text rest c.loop-i.window c.loop-i.line.items c.loop-i._i (c.loop-i.invariant.taken text rest t l) c.loop-i.invariant.plain (omega (arith, c.loop-i-test.false))
