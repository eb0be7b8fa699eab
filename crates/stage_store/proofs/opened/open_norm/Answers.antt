-- Sorting by numbers changes the order alone, so what was opened is opened still, and the numbers ascend.
use Rattle.std.proofs.Common.{rules}
use Rattle.std.proofs.lemmas.List.Sorted.{IsNonDecreasingBy-from_sort_by_key}
use Rattle.stage_store.specs.Opened.{open_number}
use Rattle.stage_store.proofs.Opening.{opened_sorted}
use Rattle.stage_store.proofs.opened.open_norm.Goals as goal

pub returns-clause-opened : goal.returns-clause-opened
returns-clause-opened c = opened_sorted c.args.plus.now c.args.minus.now c.args.e c.args.kept.now c.in_ok-pairs.pairs.items c.sort_by_key.new.self.items c.sort_by_key.ensures.permutation c.in_ok-pairs.ensures

pub returns-clause-ascending : goal.returns-clause-ascending
returns-clause-ascending c = IsNonDecreasingBy-from_sort_by_key open_number _ c.in_ok-sort_by_key.ensures.sorted (λ a r q k. search rules)
