-- The bytes that are hashed are the next ones of the file.
use Rattle.std.proofs.Common.{arith, refl, ap, take, drop, ℕ, List}
use Rattle.restart_file.proofs.Seals.{hashed_all, hashed_more}
use Rattle.restart_file.proofs.sealing.hash_piece.Goals as goal

pub returns-clause-hashed : goal.returns-clause-hashed
returns-clause-hashed g c = λ text done t h.
    let ready = c.in_ok-refill.ensures.left text (drop done text) t h.left in (
      hashed_more text c.refill.new.window _ done c.min-count.result c.args.hasher.now c.hash_bytes.new.hasher (take c.min-count.result (drop c.refill.new.window.from c.as_slice.result.now))
          c.refill.new.window.inside.0 c.refill.new.window.inside.1 (omega (arith, c.min-count.ensures)) refl refl refl refl refl
          (ap (λ (s : List ℕ). take c.min-count.result (drop c.refill.new.window.from s)) c.as_slice.ensures.value) c.hash_bytes.ensures ready.0 h.inside h.hashed,
      hashed_all text c.refill.new.window done c.min-count.result c.args.most c.refill.new.window.inside.0 (λ p z. omega (arith, c.min-count.ensures, p, z)) ready.1,
    )
