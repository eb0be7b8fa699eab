use Rattle.std.proofs.lemmas.List.Filters.{dedup_is}
use Rattle.circuit_tool.proofs.Keeping.{same_words}
use Rattle.circuit_tool.proofs.supports.put_in_order.Goals as goal

pub returns : goal.returns
returns c = same_words _ _ _ c.sort_unstable_by_key.ensures.permutation (dedup_is _ _ _ c.dedup.ensures.filtered)
