-- One byte more is taken, or the file ends.
use Rattle.std.proofs.Common.{arith, ap, ◌∙◌, ◌≡◌, drop, take, ℕ}
use Rattle.restart_file.specs.Inside.Windows.{TellsText}
use Rattle.restart_file.proofs.Remainders.{no_byte, some_byte, taken_more, taken_to_end, tells_same}
use Rattle.restart_file.proofs.pulling.next_bytes.Goals as goal

pub returns-in_default-clause-bytes : goal.returns-in_default-clause-bytes
returns-in_default-clause-bytes g c = λ text rest t l.
    let taken = c.loop-i.invariant.taken text rest t l in
    let now : TellsText (g.F.Folder.held c.loop-i.folder) c.args.name.now text = tells_same (g.F.Folder.held c.args.folder.now) (g.F.Folder.held c.loop-i.folder) c.args.name.now text c.loop-i.invariant.same t in
    taken_to_end text rest c.loop-i.window c.loop-i.bytes.items c.loop-i._i c.args.len taken (omega (arith, c.loop-i-test.true))
    (no_byte text c.next_byte.new.window (drop c.loop-i._i rest) c.in_ok-byte.field-0 c.in_default.is (c.in_ok-byte.ensures.byte text (drop c.loop-i._i rest) now taken.left))

pub loop-i-preserved : goal.loop-i-preserved
loop-i-preserved g c = record {
  same = c.next_byte.ensures.same ∙ c.loop-i.invariant.same;
  later = omega (arith, c.loop-i.invariant.later, c.next_byte.ensures.cause.later);
  taken = λ text rest t l.
      let taken = c.loop-i.invariant.taken text rest t l in
      let now : TellsText (g.F.Folder.held c.loop-i.folder) c.args.name.now text = tells_same (g.F.Folder.held c.args.folder.now) (g.F.Folder.held c.loop-i.folder) c.args.name.now text c.loop-i.invariant.same t in
      taken_more text rest c.loop-i.window c.next_byte.new.window c.loop-i.bytes.items c.extend_from_slice.new.self.items c.loop-i._i c.in-Some.byte taken
      (some_byte text c.next_byte.new.window (drop c.loop-i._i rest) c.in_ok-byte.field-0 c.in-Some.byte c.in-Some.is (c.in_ok-byte.ensures.byte text (drop c.loop-i._i rest) now taken.left)) c.in_ok-extend_from_slice.ensures.items;
}

pub returns-clause-bytes : goal.returns-clause-bytes
returns-clause-bytes g c = λ text rest t l.
    let whole : c.loop-i._i ≡ c.args.len = omega (arith, c.loop-i-test.false, c.loop-i.auto._i-end) in
    (c.loop-i.invariant.taken text rest t l).taken_is ∙ ap (λ (k : ℕ). take k rest) whole
