use Rattle.std.proofs.Common.{arith}
use Rattle.std.proofs.lemmas.List.Filters.{dedup_is}
use Rattle.lift_core.proofs.OrderedRows.{rows_kept_once}
use Rattle.lift_core.proofs.ordering.put_in_order.Goals as goal

pub returns : goal.returns
returns c =
    rows_kept_once _ _ _ c.sort_unstable.ensures.permutation (dedup_is _ _ _ c.dedup.ensures.filtered) c.sort_unstable.ensures.sorted
    (omega (arith, c.sort_unstable.ensures.len, c.dedup.ensures.bound))
