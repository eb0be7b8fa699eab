-- The places filed so far are those from 0 up to i, in order.
use Rattle.std.proofs.Common.{◌∙◌, ℕ, List, ◌++◌, ◌∷◌, [], ap, sym, arith}
use Rattle.std.specs.List.{range_with_len}
use Rattle.stage_store.proofs.Indexed.{range_more}
use Rattle.stage_store.proofs.rebuilding.tree_of.Goals as goal

pub loop-i-preserved : goal.loop-i-preserved
loop-i-preserved c = record {
  fits = c.in_ok-insert.ensures.fits;
  places =
      c.in_ok-insert.ensures.places
      ∙ ap (λ (p : List ℕ). p ++ c.loop-i.i ∷ []) c.loop-i.invariant.places
      ∙ sym (range_more 0 c.loop-i.i ∙ ap (λ n. range_with_len 0 c.loop-i.i ++ n ∷ []) (omega arith));
}
