-- A tree that holds the rows of a pool, in order.
use Rattle.std.specs.Prelude.{◌≡◌, length}
use Rattle.std.specs.List.{range_with_len}
use Rattle.row_pool.specs.Rows.{PoolValue}
use Rattle.reduce_tree.specs.Tree.{TreeValue, Fits, places_of}

pub record HoldsRows (tree : TreeValue) (listed : PoolValue) : Type 0 where
  pub fits : Fits tree listed
  pub places : places_of tree ≡ range_with_len 0 (length listed.rows)
