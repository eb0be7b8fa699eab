use Rattle.std.proofs.Common.{arith, refl}
use Rattle.restart_file.proofs.Remainders.{read_left, read_nothing}
use Rattle.restart_file.proofs.pulling.refill.Goals as goal

pub returns-clause-left : goal.returns-clause-left
returns-clause-left g c = λ text rest t l.
    let read = c.in_ok-count.ensures.bytes text t in (
      read_left text rest c.args.window.now _ c.in_ok-count.count c.args.window.now.inside.1 (omega (arith, c.if-window.false)) c.in_ok-count.ensures.length read refl refl c.saturating_add-window.ensures c.saturating_sub-window.ensures l,
      read_nothing text rest c.args.window.now c.read_into.new.storage.items c.in_ok-count.count c.args.window.now.inside.1 (omega (arith, c.if-window.false)) c.in_ok-count.ensures.length read l,
    )
