-- The number at which a class starts is the sum of the pairs of those before it.
use Rattle.std.proofs.Common.{ℕ, arith, ap, take, length, length-append, ◌∷◌, []}
use Rattle.std.specs.List.{sum_by}
use Rattle.std.proofs.lemmas.Grind.{common_steps}
use Rattle.stage_store.specs.Classes.{part_size}
use Rattle.stage_store.proofs.Opening.{pushed_each}
use Rattle.stage_store.proofs.opened.part_starts.Goals as goal

pub loop-c-preserved : goal.loop-c-preserved
loop-c-preserved c = record {
  total = grind (arith, common_steps);
  count = omega (arith, ap length c.in_ok-push.ensures.items, length-append c.loop-c.starts.items (c.loop-c.total ∷ []), c.loop-c.invariant.count);
  each = pushed_each (λ (k : ℕ). sum_by (λ x. part_size c.args.minus.now c.args.e x) (take k c.args.plus.now)) c.loop-c.starts.items c.push.new.self.items c.loop-c.total c.loop-c.c-index c.in_ok-push.ensures.items c.loop-c.invariant.count c.loop-c.invariant.each c.loop-c.invariant.total;
}
