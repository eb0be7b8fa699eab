use Rattle.std.proofs.Common.{arith, ap, refl, get_or, ℕ, List}
use Rattle.restart_file.proofs.Remainders.{byte_taken}
use Rattle.restart_file.proofs.pulling.next_byte.Goals as goal

pub returns-then-window-clause-byte : goal.returns-then-window-clause-byte
returns-then-window-clause-byte g c = λ text rest t l. (c.in_ok-refill.ensures.left text rest t l).1 (omega (arith, c.if-window.true, c.refill.new.window.inside.0))

pub returns-clause-byte : goal.returns-clause-byte
returns-clause-byte g c = λ text rest t l.
    byte_taken text rest c.refill.new.window _ _ c.refill.new.window.inside.1 (omega (arith, c.if-window.false)) (ap (λ (s : List ℕ). get_or s c.refill.new.window.from 0) c.as_slice.ensures.value) refl refl refl refl refl (c.in_ok-refill.ensures.left text rest t l).0
