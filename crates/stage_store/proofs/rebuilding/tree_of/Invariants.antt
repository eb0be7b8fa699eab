use Rattle.std.proofs.Common.{◌≡◌}
use Rattle.std.specs.List.{range_with_len}
use Rattle.reduce_tree.specs.Tree.{Fits, places_of}
use Rattle.stage_store.proofs.rebuilding.tree_of.Given as goal

abbrev pub invariant-loop-i : goal.invariant-loop-i
invariant-loop-i l = record {
  fits : Fits l.tree l.listed;
  places : places_of l.tree ≡ range_with_len 0 l.i;
}
