-- The last place is taken out each time, so what is filed is a front of what was, and the tree is one of that front.
use Rattle.std.proofs.Common.{◌≡◌, ◌≤◌, length, take, vec_len}
use Rattle.reduce_tree.specs.Inside.Filing.{IsTree}
use Rattle.reduce_tree.proofs.tree.Tree.truncate.Given as goal

abbrev pub invariant-loop-self : goal.invariant-loop-self
invariant-loop-self l = record {
  tree : IsTree l.self-inside.width l.self-inside.levels l.self-inside.filed.items l.self-inside.index;
  cut : l.self-inside.filed.items ≡ take (length l.self-inside.filed.items) l.fn.self.filed;
  least : l.len ≤ length l.self-inside.filed.items;
  width : l.self-inside.width ≡ l.fn.self.width;
  levels : l.self-inside.levels ≡ l.fn.self.levels;
}

abbrev pub decreases-loop-self : goal.decreases-loop-self
decreases-loop-self l = vec_len l.self-inside.filed
